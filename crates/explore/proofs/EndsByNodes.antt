-- What is true at each node's end is true at all ends, and the nodes' outcomes are all.
use Rattle.std.proofs.Common.{◌≡◌, ◌↔◌, ℕ, zero, suc, ◌+◌, ◌≤◌, inl, inr, Bool, true, false, Option, Some, None, Ok, List, [], ◌∷◌, ◌++◌, length, refl, sym, ap, ap₂, subst, ◌∙◌, arith, true≢false}
use Rattle.std.proofs.lemmas.Bool.{and_parts}
use Rattle.std.specs.Prelude.{◌↔◌, ◌==◌, Contains, if◌then◌else◌, option_map, slice_get, slice_index}
use Rattle.std.specs.List.{list_all}
use Rattle.std.proofs.lemmas.List.Elements.{Contains-append_cases}
use Rattle.lines_layout.specs.Lines.{has_word}
use Rattle.isa.specs.Registers.{reg}
use Rattle.store_buffer.specs.declared.entry.Entry.{Entry}
use Rattle.persist_buffer.specs.declared.entry.PendingEntry.{PendingEntry}
use Rattle.persist_buffer.specs.declared.entry.PendingEntry.TheVariants.{Write, Marker}
use Rattle.persist_buffer.specs.Memories.{coherent}
use Rattle.pending_images.specs.Listings.{in_order}
use Rattle.pending_images.proofs.OrderedImages as ordered
use Rattle.machine.specs.declared.step.Seen.{Seen}
use Rattle.machine.specs.declared.step.Step.{Step}
use Rattle.machine.specs.declared.step.Step.TheVariants.{Exec, Drain, Persist, Settle, Crash}
use Rattle.machine.specs.Limits.{max_turns}
use Rattle.machine.specs.Processors.{halted}
use Rattle.machine.specs.State.{Processor, State}
use Rattle.machine.specs.Steps.{step_of}
use Rattle.machine.proofs.PersistAndSettleStepsSplit.{persist_only, settle_only}
use Rattle.machine.proofs.ProcessorSteps.{drain_only, exec_only}
use Rattle.conditions.specs.declared.cond.Operand.{Operand}
use Rattle.conditions.specs.declared.cond.Operand.TheVariants.{Persisted, Coherent, Register}
use Rattle.conditions.proofs.SameValues.{same_truth}
use Rattle.conditions.specs.Formulas.{Formula}
use Rattle.images.specs.Images.{image_at}
use Rattle.images.specs.Truth.{value_in}
use Rattle.explore.specs.declared.question.Question.{Question}
use Rattle.explore.specs.Ahead.{AreClosedFrom, IsClosed, IsTried}
use Rattle.explore.specs.Ends.{IsEnd, IsEndOf, IsTrueAtEnds, all_run_as, has_ended, holds_at}
use Rattle.explore.specs.Explored.{IsEndNode, ended, have_ended, whole}
use Rattle.explore.specs.Exploring.{IsExploring}
use Rattle.explore.specs.Followed.{after, first_own, owns_of}
use Rattle.explore.specs.Found.{Found, led_to, moves_of, nodes_of}
use Rattle.explore.specs.Gathered.{IsCollected, ends_at, executed, executed_by, later_runs, runs_at, visit_runs}
use Rattle.explore.specs.Outcomes.{AreOutcomes, outcome_of, processors_outcome}
use Rattle.explore.specs.Questions.{is_move}
use Rattle.explore.specs.Ran.{IsRan, site}
use Rattle.explore.specs.Reachable.{IsRun}
use Rattle.explore.specs.Sound.{IsSound}
use Rattle.explore.proofs.EndsAreNodes.{ends_are_nodes, halted_runs_nothing, nodes_are_ends, not_empty}
use Rattle.explore.proofs.FoundPaths.{first_or_later, first_there, mapped, within_list}
pub use Rattle.explore.proofs.Members.{there_at}
use Rattle.explore.proofs.MovesAreAll.{moves_move}
use Rattle.explore.proofs.OwnStepsFollowed.{AreOwn, first_is_own, owns_own}
use Rattle.explore.proofs.RanByClosed.{ran_by_closed}
use Rattle.explore.proofs.RunsGathered.{executed_among, is_behind, runs_execute}
use Rattle.explore.proofs.Visits.{longer_run, no_crash, none_quiet, nothing_there, one_step, path_then}
use Rattle.explore.proofs.SoundRuns.{of_itself, run_of_it}

-- ---- a condition

same_at_end : (recovered : Bool) (r t : State) → IsEndNode recovered r t → (operand : Operand) → value_in t operand ≡ value_in (ended r) operand
same_at_end recovered r t is (Persisted word) = λ k. if has_word (is.shape k) word then Some (slice_index (is.memory k).persisted word) else None
same_at_end recovered r t is (Coherent word) = λ k. if has_word (is.shape k) word then Some (coherent (is.memory k) word) else None
same_at_end recovered r t is (Register p x) = ap (λ (cpus : List Processor). option_map (λ (cpu : Processor). reg cpu.regs x) (slice_get cpus p)) is.processors

same_image : (recovered : Bool) (r t : State) → IsEndNode recovered r t → image_at t.shape t.memory.persisted ≡ image_at r.shape (whole r.memory).persisted
same_image recovered r t is = λ k. image_at (is.shape k) (is.memory k).persisted

pub holds_at_end : (recovered : Bool) (condition : Formula) (r t : State) → IsEndNode recovered r t → holds_at condition t ≡ holds_at condition (ended r)
holds_at_end recovered condition r t is = same_truth (value_in t) (value_in (ended r)) (same_at_end recovered r t is) condition

pub outcome_at_end : (recovered : Bool) (r t : State) → IsEndNode recovered r t → outcome_of t ≡ outcome_of (ended r)
outcome_at_end recovered r t is = ap₂ (λ (xs ys : List ℕ). xs ++ ys) (ap processors_outcome is.processors) (same_image recovered r t is)

pub true_at_ends : (sets locals : Bool) (question : Question) (recovered : Bool) (condition : Formula) (nodes : List State) (start : State) → AreClosedFrom sets locals question nodes start
    → ((r : State) → IsTried sets locals question nodes r → have_ended recovered r ≡ true → holds_at condition (ended r) ≡ true) → IsTrueAtEnds question.crashes recovered condition start
true_at_ends sets locals question recovered condition nodes start from kept t end =
    let (r, there, tried, is) = ends_are_nodes sets locals question nodes recovered start t from end in
    holds_at_end recovered condition r t is ∙ kept r tried is.ended

-- ---- what has ended makes no move

one_ended : (cpus : List Processor) (p : ℕ) (c : Processor) → list_all has_ended cpus ≡ true → slice_get cpus p ≡ Some c → has_ended c ≡ true
one_ended [] p c all there = absurd (cc)
one_ended (x ∷ cpus) zero c all there = let same : x ≡ c = cc in ap has_ended (sym same) ∙ (and_parts (has_ended x) (list_all has_ended cpus) all).0
one_ended (x ∷ cpus) (suc p) c all there = one_ended cpus p c ((and_parts (has_ended x) (list_all has_ended cpus) all).1) there

pub no_moves : (s t : State) (step : Step) (seen : Seen) → list_all has_ended s.processors ≡ true → is_move step ≡ true → step_of s step ≡ Ok (seen, t) → ⊥
no_moves s t (Exec p) seen all move e =
    let x = exec_only s t p seen e in
    let done = and_parts (halted x.before) _ (one_ended s.processors p x.before all x.there) in
    halted_runs_nothing s.shape x.before x.after s.memory t.memory x.act done.0 x.ran
no_moves s t (Drain p i) seen all move e =
    let x = drain_only s t p i seen e in
    let done = and_parts (halted x.before) _ (one_ended s.processors p x.before all x.there) in
    split_empty x.earlier x.before.buffer x.entry x.later done.1 x.split.whole
  where
    split_empty : (earlier b : List Entry) (entry : Entry) (later : List Entry) → (length b == 0) ≡ true → b ≡ earlier ++ entry ∷ later → ⊥
    split_empty [] b entry later none is = not_empty b later entry none is
    split_empty (e ∷ earlier) b entry later none is = not_empty b (earlier ++ entry ∷ later) e none is
no_moves s t (Persist line) seen all move e = true≢false (sym move)
no_moves s t Settle seen all move e = true≢false (sym move)
no_moves s t Crash seen all move e = true≢false (sym move)

-- at an end a crash alone is accepted
pub only_crashes : (s t : State) (step : Step) (seen : Seen) → IsEnd s → step_of s step ≡ Ok (seen, t) → step ≡ Crash
only_crashes s t (Exec p) seen end e = absurd (no_moves s t (Exec p) seen end.processors refl e)
only_crashes s t (Drain p i) seen end e = absurd (no_moves s t (Drain p i) seen end.processors refl e)
only_crashes s t (Persist line) seen end e = let x = persist_only s t line seen e in absurd (none_split x.before (Write x.word x.value) x.later (sym end.pending ∙ x.split.whole))
  where
    none_split : (before : List PendingEntry) (entry : PendingEntry) (later : List PendingEntry) → [] ≡ before ++ entry ∷ later → ⊥
    none_split [] entry later is = cc
    none_split (b ∷ before) entry later is = cc
only_crashes s t Settle seen end e = let x = settle_only s t seen e in absurd (none_split x.before (Marker x.line) x.later (sym end.pending ∙ x.split.whole))
  where
    none_split : (before : List PendingEntry) (entry : PendingEntry) (later : List PendingEntry) → [] ≡ before ++ entry ∷ later → ⊥
    none_split [] entry later is = cc
    none_split (b ∷ before) entry later is = cc
only_crashes s t Crash seen end e = refl

-- ---- what was gathered

only_one : (b : Bool) (o x : List ℕ) → Contains (if b then o ∷ [] else []) x → (b ≡ true) × (o ≡ x)
only_one true o x there = elim (first_or_later o x [] there) [ inl same ↦ (refl, same) | inr none ↦ absurd (nothing_there x none) ]
only_one false o x there = absurd (nothing_there x there)

the_one : (b : Bool) (o : List ℕ) → b ≡ true → Contains (if b then o ∷ [] else []) o
the_one b o is = rw is (first_there o [])

pub sound_nodes : (start : State) (paths : List (List Step)) → IsSound start → (r : State) → Contains (nodes_of start paths) r → IsSound r
sound_nodes start paths sound r there =
    let m = mapped (led_to start) paths r there in
    subst IsSound m.is ((run_of_it start m.of start (of_itself start sound)).sound)

-- the turns that each node has left which has ended
room_of : (sets locals : Bool) (question : Question) (recovered : Bool) (nodes : List State) (i : ℕ) (r : State) → have_ended recovered r ≡ true → IsClosed sets locals question nodes i r → r.turns + length r.memory.pending ≤ max_turns
room_of sets locals question recovered nodes i r done (inl (tried, looked)) = tried.kept.room
room_of sets locals question recovered nodes i r done (inr advanced) =
    let o = first_is_own locals r advanced.step advanced.first in
    absurd (no_moves r o.end advanced.step o.seen ((and_parts (list_all has_ended r.processors) (all_run_as recovered r.processors) done).0) o.move o.made)

-- a state that has ended has no step of its own: what is gathered of ends is gathered of tried states alone
pub no_end_ahead : (recovered : Bool) (s t : State) (step : Step) (seen : Seen) → is_move step ≡ true → step_of s step ≡ Ok (seen, t) → ends_at recovered s ≡ []
no_end_ahead recovered s t step seen move made = by (have_ended recovered s) refl
  where
    by : (b : Bool) → have_ended recovered s ≡ b → (if b then outcome_of (ended s) ∷ [] else []) ≡ []
    by true done = absurd (no_moves s t step seen ((and_parts (list_all has_ended s.processors) (all_run_as recovered s.processors) done).0) move made)
    by false done = refl

module _ (sets locals : Bool) (question : Question) (start : State) (found : Found) (at : ℕ) (all : length found.paths ≤ at) (x : IsExploring sets locals question start found at)
    (from : AreClosedFrom sets locals question (nodes_of start found.paths) start) where
  abbrev Gives : (State → List (List ℕ)) → List (List ℕ) → Type 0
  Gives give xs = IsCollected give start found.paths at xs

  -- what a node gives is gathered
  of_node : (give : State → List (List ℕ)) (xs : List (List ℕ)) (r : State) (y : List ℕ) → Gives give xs → Contains (nodes_of start found.paths) r → Contains (give r) y → Contains xs y
  of_node give xs r y gives there gave =
      let m = mapped (led_to start) found.paths r there in
      let less = within_list found.paths m.of m.place m.there in
      gives.each m.place m.of y (omega (arith, less, all)) m.there (subst (λ (z : State). Contains (give z) y) (sym m.is) gave)

  module _ (recovered : Bool) (xs : List (List ℕ)) (gives : Gives (ends_at recovered) xs) where
    only : (outcome : List ℕ) → Contains xs outcome → (t : State) × IsEndOf question.crashes recovered start t × (outcome_of t ≡ outcome)
    only outcome there =
        let (i, path, less, at_i, gave) = gives.only outcome there in
        let r = led_to start path in
        let (done, is) = only_one (have_ended recovered r) (outcome_of (ended r)) outcome gave in
        let room = room_of sets locals question recovered (nodes_of start found.paths) i r done (x.visited i path less at_i) in
        let still : IsSound r = (run_of_it start path start (of_itself start from.sound)).sound in
        let (t, end, node) = nodes_are_ends question.crashes recovered start r path still (x.found.runs path (there_at found.paths path i at_i)) done room in
        (t, end, outcome_at_end recovered r t node ∙ is)

    always : (outcome : List ℕ) → (t : State) × IsEndOf question.crashes recovered start t × (outcome_of t ≡ outcome) → Contains xs outcome
    always outcome (t, end, is) =
        let (r, there, tried, node) = ends_are_nodes sets locals question (nodes_of start found.paths) recovered start t from end in
        of_node (ends_at recovered) xs r outcome gives there
        (subst (Contains (ends_at recovered r)) (sym (outcome_at_end recovered r t node) ∙ is) (the_one (have_ended recovered r) (outcome_of (ended r)) node.ended))

    pub outcomes_are : AreOutcomes question.crashes recovered start (in_order xs)
    outcomes_are = record {
      exact = λ outcome. (λ there. only outcome ((ordered.in_order_has xs outcome).0 there), λ end. (ordered.in_order_has xs outcome).1 (always outcome end));
      ascending = ordered.in_order_rises xs;
    }

  -- ---- what runs

  -- a run to what own steps execute
  own_ran : (s : State) (steps path : List Step) (p : ℕ) (recovery : Bool) (place : ℕ) → IsRun question.crashes path start s → AreOwn locals steps s → Contains (executed_by s steps) (site p recovery place) → IsRan question.crashes start p recovery place
  own_ran s [] path p recovery place ran own gave = absurd (nothing_there (site p recovery place) gave)
  own_ran s (step ∷ steps) path p recovery place ran (first, rest) gave =
      elim (Contains-append_cases (executed s step) (executed_by (after s step) steps) (site p recovery place) gave) [
        | inl here ↦ (s, (path, ran), runs_execute s p recovery place (executed_among s step (site p recovery place) here))
        | inr later ↦
            let one = one_step s first.end step first.seen first.made in
            let on = longer_run question.crashes start s path (step ∷ []) ran (none_quiet question.crashes (step ∷ []) (rw (no_crash step first.move) refl)) one.0 in
            own_ran (after s step) steps (path ++ step ∷ []) p recovery place (subst (IsRun question.crashes (path ++ step ∷ []) start) ((path_then start s path (step ∷ []) ran.accepted ran.leads).1) on) rest later
      ]

  -- what a visit notes runs
  noted_ran : (s : State) (path : List Step) (p : ℕ) (recovery : Bool) (place : ℕ) → IsRun question.crashes path start s → Contains (visit_runs locals s) (site p recovery place) → IsRan question.crashes start p recovery place
  noted_ran s path p recovery place ran gave =
      elim (Contains-append_cases (runs_at s) (later_runs locals s (first_own locals s)) (site p recovery place) gave) [
        | inl here ↦ (s, (path, ran), runs_execute s p recovery place here)
        | inr later ↦ by (first_own locals s) later
      ]
    where
      by : (first : Option Step) → Contains (later_runs locals s first) (site p recovery place) → IsRan question.crashes start p recovery place
      by (Some step) later = own_ran s (owns_of locals s) path p recovery place ran (owns_own locals s) later
      by None later =
          let b = is_behind locals s (moves_of s) (site p recovery place) later in
          let move = moves_move s b.step b.there in
          let one = one_step s b.end b.step b.seen b.made in
          let on = longer_run question.crashes start s path (b.step ∷ []) ran (none_quiet question.crashes (b.step ∷ []) (rw (no_crash b.step move) refl)) one.0 in
          let leads : led_to start (path ++ b.step ∷ []) ≡ b.end = (path_then start s path (b.step ∷ []) ran.accepted ran.leads).1 ∙ one.1 in
          own_ran b.end (owns_of locals b.end) (path ++ b.step ∷ []) p recovery place (subst (IsRun question.crashes (path ++ b.step ∷ []) start) leads on) (owns_own locals b.end) b.gave

  pub ran_is : (xs : List (List ℕ)) (p : ℕ) (recovery : Bool) (place : ℕ) → Gives (visit_runs locals) xs → Contains xs (site p recovery place) ↔ IsRan question.crashes start p recovery place
  ran_is xs p recovery place gives = (
    λ there.
        let (i, path, less, at_i, gave) = gives.only (site p recovery place) there in
        noted_ran (led_to start path) path p recovery place (x.found.runs path (there_at found.paths path i at_i)) gave,
    λ ran.
        let (t, (steps, run), executes) = ran in
        let (r, there, noted) = ran_by_closed sets locals question (nodes_of start found.paths) start t p recovery place from steps run.crashing run.accepted run.leads executes in
        of_node (visit_runs locals) xs r (site p recovery place) gives there noted,
  )
