-- Where own steps come first: what a run executes, own step or not, is noted at a node.
use Rattle.std.proofs.Common.{◌≡◌, ◌≢◌, ℕ, zero, suc, ◌<◌, inl, inr, Bool, true, false, Option, Some, None, Result, Ok, Err, List, [], ◌∷◌, ◌++◌, refl, sym, ap, subst, ◌∙◌, arith, true≢false}
use Rattle.std.proofs.lemmas.Bool.{and_parts, cases_Bool}
use Rattle.std.proofs.lemmas.Bool.Decides.{nat_tests}
use Rattle.std.specs.Prelude.{◌⊎◌, ◌&&◌, ◌||◌, Contains, slice_get, slice_set}
use Rattle.std.specs.List.{list_any}
use Rattle.std.proofs.lemmas.List.Elements.{Contains-append_left, Contains-append_right}
use Rattle.store_buffer.specs.Buffers.{is_held_by}
use Rattle.store_buffer.specs.declared.entry.Entry.{Entry}
use Rattle.store_buffer.specs.declared.entry.Entry.TheVariants.{Sfence}
use Rattle.machine.specs.declared.refusal.Refusal.{Refusal}
use Rattle.machine.specs.declared.step.Seen.{Seen}
use Rattle.machine.specs.declared.step.Seen.TheVariants.{Ran, Left}
use Rattle.machine.specs.declared.step.Step.{Step}
use Rattle.machine.specs.declared.step.Step.TheVariants.{Exec, Drain, Persist, Settle, Crash}
use Rattle.machine.specs.Limits.{max_turns}
use Rattle.machine.specs.Processors.{run_by}
use Rattle.machine.specs.State.{Processor, State}
use Rattle.machine.specs.StepRelations.{IsDrainStep, IsExecStep, IsProcessorTurn}
use Rattle.machine.specs.Steps.{End, end_after, run_of, step_of}
use Rattle.machine.proofs.CrashKeepsWhatIsPersisted.{lines_stay, processors_after}
use Rattle.machine.proofs.PersistAndSettleStepsSplit.{persist_only, settle_only}
use Rattle.machine.proofs.ProcessorSteps.{drain_always, drain_only, exec_always, exec_only, processor_is_now}
use Rattle.explore.specs.Ahead.{AreClosedAhead, AreClosedFrom, CoversAhead, IsAdvanced, IsTried}
use Rattle.explore.specs.Reachable.{is_crash}
use Rattle.explore.specs.Explored.{IsAmong, fallen}
use Rattle.explore.specs.Followed.{after, all_own, first_own, own_end, owns_of}
use Rattle.explore.specs.Found.{moves_of}
use Rattle.explore.specs.Gathered.{IsNotedBy, executed, executed_by, later_runs, followed_runs, runs_at, runs_behind}
use Rattle.explore.specs.Questions.{is_move}
use Rattle.explore.specs.declared.question.Question.{Question}
use Rattle.explore.specs.Own.{is_before, is_own, is_private, leaves, place_at}
use Rattle.explore.specs.Ran.{Executes, site}
use Rattle.explore.proofs.AheadSteps.{ahead_of, covers_ahead_of, fence_or_not, gone_at, place_is, stays_there, step_known, within}
use Rattle.explore.proofs.ClosedAhead.{Known, all_looked, ends_ahead, start_known}
use Rattle.explore.proofs.CoveredSteps.{Follows, Lacks, drain_covered, exec_covered, sound_whole}
use Rattle.explore.proofs.LaterNodes.{kind_of}
use Rattle.explore.proofs.SpeakingFor.{leaves_reached}
use Rattle.explore.proofs.OwnRuns.{IsTold, OwnRun, drains_told, run_advances, runs_told, told_after, told_before_fence, told_before_run, told_of_none}
use Rattle.explore.proofs.OwnSteps.{fence_is_oldest, own_runs as own_over}
use Rattle.explore.proofs.OwnStepsEnd.{only_fence}
use Rattle.explore.proofs.OwnStepsFollowed.{AreOwn, after_is, end_covers, end_fewer, idle_none, owns_own, run_after}
use Rattle.explore.proofs.MovesAreAll.{moves_are_all}
use Rattle.explore.proofs.RanAhead.{foreign_ran}
use Rattle.explore.proofs.RunsGathered.{behind_there, executed_run, executed_runs}

-- ---- what is known of each processor, where one of them changes

abbrev Each : (ℕ → Processor → Type 0) → List Processor → Type 0
Each Known cpus = (p : ℕ) (c : Processor) → slice_get cpus p ≡ Some c → Known p c

some_same : (a b : Processor) → ◌≡◌ {A = Option Processor} (Some a) (Some b) → a ≡ b
some_same a b is = cc

set_each : (Known : ℕ → Processor → Type 0) (cpus : List Processor) (p : ℕ) (d : Processor) → Each Known cpus → Known p d → Each Known (slice_set cpus p d)
set_each Known [] p d each now q e there = each q e there
set_each Known (x ∷ cpus) zero d each now zero e there = subst (Known zero) (some_same d e there) now
set_each Known (x ∷ cpus) zero d each now (suc q) e there = each (suc q) e there
set_each Known (x ∷ cpus) (suc p) d each now zero e there = each zero e there
set_each Known (x ∷ cpus) (suc p) d each now (suc q) e there = set_each (λ k. Known (suc k)) cpus p d (λ k. each (suc k)) now q e there

unset_each : (Known : ℕ → Processor → Type 0) (cpus : List Processor) (p : ℕ) (c d : Processor) → slice_get cpus p ≡ Some c → (Known p d → Known p c) → Each Known (slice_set cpus p d) → Each Known cpus
unset_each Known [] p c d was back each q e there = each q e there
unset_each Known (x ∷ cpus) zero c d was back each zero e there = subst (Known zero) (some_same c e (sym was ∙ there)) (back (each zero d refl))
unset_each Known (x ∷ cpus) zero c d was back each (suc q) e there = each (suc q) e there
unset_each Known (x ∷ cpus) (suc p) c d was back each zero e there = each zero e there
unset_each Known (x ∷ cpus) (suc p) c d was back each (suc q) e there = unset_each (λ k. Known (suc k)) cpus p c d was back (λ k. each (suc k)) q e there

-- ---- accepted steps that are own ones

-- whether the step that is seen is an own one
seen_own : (locals : Bool) (s t : State) (p : ℕ) (seen : Seen) (x : IsExecStep p s t seen) → is_private locals t seen ≡ (is_own locals x.act && is_before x.before.place x.after.place)
seen_own locals s t p seen x =
    let now : place_at t.processors p ≡ x.after.place = ap (λ (cpus : List Processor). place_at cpus p) x.alone.processors ∙ place_is s.processors p x.before x.after x.there in
    ap (is_private locals t) x.shown ∙ ap (λ (k : ℕ). is_own locals x.act && is_before x.before.place k) now

own_run_of : (locals : Bool) (s t : State) (p : ℕ) (seen : Seen) (x : IsExecStep p s t seen) → (is_own locals x.act && is_before x.before.place x.after.place) ≡ true → OwnRun locals s.shape x.before x.after
own_run_of locals s t p seen x mine =
    let both = and_parts (is_own locals x.act) (is_before x.before.place x.after.place) mine in
    let before = both.1 in
    record {
      act = x.act;
      own = both.0;
      rises = grind (arith, nat_tests, before);
      ran = own_over locals s.shape x.before x.after s.memory t.memory x.act both.0 x.ran;
    }

-- the sfence that left was oldest
record FenceLeft (c d : Processor) (later : List Entry) : Type 0 where
  whole : c.buffer ≡ Sfence ∷ later
  after : d ≡ record c { buffer = later }

fence_left : (s t : State) (p i : ℕ) (seen : Seen) (x : IsDrainStep p i s t seen) → x.entry ≡ Sfence → FenceLeft x.before x.after x.later
fence_left s t p i seen x fence =
    let none : x.earlier ≡ [] = fence_is_oldest x.earlier (ap (λ (y : Entry). list_any (is_held_by y) x.earlier) (sym fence) ∙ x.split.free) in
    record {
      whole = x.split.whole ∙ (λ k. none k ++ fence k ∷ x.later);
      after = x.split.rest ∙ ap (λ (b : List Entry). record x.before { buffer = b ++ x.later }) none;
    }

module _ (sets locals : Bool) (question : Question) (nodes : List State) where
  -- whatever own step of a processor runs after its own steps, it is noted
  abbrev Told : List ℕ → ℕ → Processor → Type 0
  Told shape p c = IsTold locals shape (IsNotedBy locals nodes p) c

  -- so of each processor of a state
  abbrev AllTold : State → Type 0
  AllTold t = Each (Told t.shape) t.processors

  told_as : (r t : State) → t.shape ≡ r.shape → t.processors ≡ r.processors → AllTold r → AllTold t
  told_as r t shape processors all =
      subst (λ (lines : List ℕ). Each (Told lines) t.processors) (sym shape) (subst (λ (cpus : List Processor). Each (Told r.shape) cpus) (sym processors) all)

  -- one processor changed, and of it this is known
  told_changed : (t u : State) (p : ℕ) (now : Processor) → IsProcessorTurn p now t u → AllTold t → Told t.shape p now → AllTold u
  told_changed t u p now alone all known =
      told_as (record t { processors = slice_set t.processors p now }) u alone.shape alone.processors (set_each (Told t.shape) t.processors p now all known)

  -- it is known of it before, as after
  told_unchanged : (t u : State) (p : ℕ) (was now : Processor) → IsProcessorTurn p now t u → slice_get t.processors p ≡ Some was → (Told t.shape p now → Told t.shape p was) → AllTold u → AllTold t
  told_unchanged t u p was now alone there back all =
      unset_each (Told t.shape) t.processors p was now there back (told_as u (record t { processors = slice_set t.processors p now }) (sym alone.shape) (sym alone.processors) all)

  -- ---- the nodes

  -- each of some instructions is noted
  abbrev AreNoted : List (List ℕ) → Type 0
  AreNoted runs = (p : ℕ) (recovery : Bool) (place : ℕ) → Contains runs (site p recovery place) → IsNotedBy locals nodes p recovery place

  -- those of the own steps that follow a node
  own_noted : (r : State) (step : Step) → Contains nodes r → first_own locals r ≡ Some step → AreNoted (followed_runs locals r)
  own_noted r step there first p recovery place gave = (
    r,
    there,
    Contains-append_right (runs_at r) (later_runs locals r (first_own locals r)) (site p recovery place)
        (subst (λ (o : Option Step). Contains (later_runs locals r o) (site p recovery place)) (sym first) gave),
  )

  no_both : (refusal : Refusal) (seen : Seen) (t : State) → ◌≡◌ {A = Result (Seen × State) Refusal} (Err refusal) (Ok (seen, t)) → ⊥
  no_both refusal seen t e = absurd (cc)

  among_moves : (r t : State) (step : Step) (seen : Seen) → r.turns < max_turns → is_move step ≡ true → step_of r step ≡ Ok (seen, t) → Contains (moves_of r) step
  among_moves r t step seen time move made =
      elim (moves_are_all r step time move) [
        | inl is ↦ is
        | inr (refusal, refused, none) ↦ absurd (no_both refusal seen t (sym refused ∙ made))
      ]

  -- those of the own steps that follow a step of a node in which no step is an own one
  behind_noted : (r t : State) (step : Step) (seen : Seen) → Contains nodes r → IsTried sets locals question nodes r → is_move step ≡ true → step_of r step ≡ Ok (seen, t) → AreNoted (followed_runs locals t)
  behind_noted r t step seen there tried move made p recovery place gave =
      let one : Contains (runs_behind locals (step_of r step)) (site p recovery place) = subst (λ (x : Result (Seen × State) Refusal). Contains (runs_behind locals x) (site p recovery place)) (sym made) gave in
      let all = behind_there locals r (moves_of r) step (site p recovery place) (among_moves r t step seen tried.expanded.time move made) one in (
        r,
        there,
        Contains-append_right (runs_at r) (later_runs locals r (first_own locals r)) (site p recovery place)
            (subst (λ (o : Option Step). Contains (later_runs locals r o) (site p recovery place)) (sym (idle_none locals r tried.idle)) all),
      )

  -- what an own step executes
  executes_own : (r t : State) (p : ℕ) (seen : Seen) → (x : IsExecStep p r t seen) → step_of r (Exec p) ≡ Ok (seen, t) → Contains (executed r (Exec p)) (site p x.before.recovering x.before.place)
  executes_own r t p seen x e = executed_run r p x.before.recovering x.before.place (record { cpu = x.before; there = x.there; program = refl; at = refl; seen = seen; end = t; made = e })

  -- a state that makes its own step
  own_before : (r t : State) (step : Step) (seen : Seen) → AreNoted (executed r step) → is_move step ≡ true → step_of r step ≡ Ok (seen, t) → is_private locals t seen ≡ true → AllTold t → AllTold r
  own_before r t (Exec p) seen noted move e own all =
      let x = exec_only r t p seen e in
      let run = own_run_of locals r t p seen x (sym (seen_own locals r t p seen x) ∙ own) in
      let here = noted p x.before.recovering x.before.place (executes_own r t p seen x e) in
      told_unchanged r t p x.before x.after x.alone x.there (told_before_run locals r.shape (IsNotedBy locals nodes p) x.before x.after run here) all
  own_before r t (Drain p i) seen noted move e own all =
      let x = drain_only r t p i seen e in
      let left = fence_left r t p i seen x (only_fence locals t p i x.entry (ap (is_private locals t) (sym x.shown) ∙ own)) in
      told_unchanged r t p x.before x.after x.alone x.there (told_before_fence locals r.shape (IsNotedBy locals nodes p) x.before x.after x.later left.whole left.after) all
  own_before r t (Persist line) seen noted move e own all = absurd (true≢false (sym move))
  own_before r t Settle seen noted move e own all = absurd (true≢false (sym move))
  own_before r t Crash seen noted move e own all = absurd (true≢false (sym move))

  -- and its own steps one after another
  owns_before : (steps : List Step) (s : State) → AreOwn locals steps s → AreNoted (executed_by s steps) → AllTold (run_of steps s).state → AllTold s
  owns_before [] s own noted all = all
  owns_before (step ∷ steps) s (first, rest) noted all =
      let next : State = after s step in
      let known : AllTold next = owns_before steps next rest (λ p recovery place gave. noted p recovery place (Contains-append_right (executed s step) (executed_by next steps) (site p recovery place) gave))
      (subst AllTold ((run_after s step steps first.seen first.end first.made).1) all) in
      own_before s first.end step first.seen (λ p recovery place gave. noted p recovery place (Contains-append_left (executed s step) (executed_by next steps) (site p recovery place) gave))
      first.move first.made first.own (subst AllTold (after_is s first.end step first.seen first.made) known)

  -- a state of whose end it is known
  end_before : (s : State) → AreNoted (followed_runs locals s) → AllTold (own_end locals s) → AllTold s
  end_before s noted all = owns_before (owns_of locals s) s (owns_own locals s) noted all

  module _ (start : State) (from : AreClosedFrom sets locals question nodes start) where
    abbrev closed : AreClosedAhead sets locals question nodes
    closed = from.closed

    advanced_told : (r : State) → Contains nodes r → (a : IsAdvanced sets locals nodes r) → (n : ℕ) → all_own r.processors < suc n
        → ((next : State) → Contains nodes next → all_own next.processors < n → AllTold next) → AllTold r
    advanced_told r there a n few each =
        let (next, is_there, same) = a.there in
        let less : all_own (own_end locals r).processors < all_own r.processors = end_fewer locals r a.step a.first in
        let fewer : all_own next.processors < all_own r.processors = subst (λ (cpus : List Processor). all_own cpus < all_own r.processors) same.processors less in
        let known = each next is_there (omega (arith, fewer, few)) in
        end_before r (own_noted r a.step there a.first) (told_as next (own_end locals r) same.shape same.processors known)

    node_told : (n : ℕ) (r : State) → Contains nodes r → all_own r.processors < n → AllTold r
    node_told zero r there few = absurd (omega (arith, few))
    node_told (suc n) r there few =
        elim (kind_of sets locals question nodes r closed there) [
          | inl tried ↦ (λ p c now. told_of_none locals r.shape (IsNotedBy locals nodes p) c (stays_there sets locals nodes r p c tried.expanded tried.idle now))
          | inr advanced ↦ advanced_told r there advanced n few (node_told n)
        ]

    among_told : (t : State) → IsAmong sets nodes t → AllTold t
    among_told t (r, there, alike) = told_as r t alike.shape alike.processors (node_told (suc (all_own r.processors)) r there (omega arith))

    -- ---- one step

    -- where a node makes the step too, what it leads to by own steps is like a node, and what these execute is noted
    followed_told : (r u : State) (step : Step) → Contains nodes r → IsTried sets locals question nodes r → is_move step ≡ true → Lacks r step ⊎ Follows sets r step u → AllTold u
    followed_told r u step there tried move (inl lacks) = absurd (true≢false (sym lacks.room ∙ tried.expanded.room step lacks.refusal move lacks.refused))
    followed_told r u step there tried move (inr f) =
        let end = among_told (own_end locals f.end) (tried.expanded.moves step f.seen f.end move f.made) in
        told_as f.end u f.covers.shape f.covers.processors (end_before f.end (behind_noted r f.end step f.seen there tried move f.made) end)

    own_exec : (t u : State) (p : ℕ) (seen : Seen) → AllTold t → (x : IsExecStep p t u seen) → (is_own locals x.act && is_before x.before.place x.after.place) ≡ true → AllTold u
    own_exec t u p seen all x mine =
        told_changed t u p x.after x.alone all
        (told_after locals t.shape (IsNotedBy locals nodes p) x.before x.after (run_advances locals t.shape x.before x.after (own_run_of locals t u p seen x mine)) (all p x.before x.there))

    other_exec : (r t u : State) (p : ℕ) (seen : Seen) → Contains nodes r → IsTried sets locals question nodes r → CoversAhead sets locals r t → AllTold t → (x : IsExecStep p t u seen)
        → (is_own locals x.act && is_before x.before.place x.after.place) ≡ false → AllTold u
    other_exec r t u p seen there tried c all x foreign =
        let (end, now, (n, gone)) = gone_at locals r.shape t.processors r.processors p x.before c.processors x.there in
        let ran : run_by r.shape x.before t.memory ≡ Ok (x.act, (x.after, u.memory)) = ap (λ (shape : List ℕ). run_by shape x.before t.memory) (sym c.shape) ∙ x.ran in
        let on = runs_told locals r.shape (IsNotedBy locals nodes p) n x.before x.after end t.memory u.memory x.act ran foreign gone in
        let next : State = record u { processors = slice_set r.processors p on.after } in
        let alone : IsProcessorTurn p on.after (ahead_of r t) next = record { turns = x.alone.turns; crashes = x.alone.crashes; shape = x.alone.shape; processors = refl } in
        let made : step_of (ahead_of r t) (Exec p) ≡ Ok (Ran p end.place x.act, next) = exec_always (ahead_of r t) next p (Ran p end.place x.act) (record {
          before = end;
          after = on.after;
          act = x.act;
          turn_left = x.turn_left;
          there = now;
          ran = ap (λ (shape : List ℕ). run_by shape end t.memory) c.shape ∙ on.ran;
          shown = refl;
          alone = alone;
        }) in
        let known = followed_told r next (Exec p) there tried refl (exec_covered sets r (ahead_of r t) next p (Ran p end.place x.act) (covers_ahead_of sets locals r t c) tried.expanded.time made) in
        let is_there = processor_is_now (ahead_of r t) next p on.after alone (within r.processors p end now) in
        let after : Told r.shape p on.after = subst (λ (lines : List ℕ). Told lines p on.after) (x.alone.shape ∙ c.shape) (known p on.after is_there) in
        told_changed t u p x.after x.alone all (subst (λ (lines : List ℕ). Told lines p x.after) (sym c.shape) (on.back after))

    exec_told : (r t u : State) (p : ℕ) (seen : Seen) → Contains nodes r → IsTried sets locals question nodes r → CoversAhead sets locals r t → AllTold t → step_of t (Exec p) ≡ Ok (seen, u) → AllTold u
    exec_told r t u p seen there tried c all e =
        let x = exec_only t u p seen e in
        elim (cases_Bool (is_own locals x.act && is_before x.before.place x.after.place)) [
          | inl mine ↦ own_exec t u p seen all x mine
          | inr foreign ↦ other_exec r t u p seen there tried c all x foreign
        ]

    own_drain : (t u : State) (p i : ℕ) (seen : Seen) → AllTold t → (x : IsDrainStep p i t u seen) → x.entry ≡ Sfence → AllTold u
    own_drain t u p i seen all x fence =
        let left = fence_left t u p i seen x fence in
        told_changed t u p x.after x.alone all
        (told_after locals t.shape (IsNotedBy locals nodes p) x.before x.after (leaves x.later left.whole left.after) (all p x.before x.there))

    other_drain : (r t u : State) (p i : ℕ) (seen : Seen) → Contains nodes r → IsTried sets locals question nodes r → CoversAhead sets locals r t → AllTold t → (x : IsDrainStep p i t u seen) → x.entry ≢ Sfence → AllTold u
    other_drain r t u p i seen there tried c all x other =
        let (end, now, (n, gone)) = gone_at locals r.shape t.processors r.processors p x.before c.processors x.there in
        let was : Told r.shape p x.before = subst (λ (lines : List ℕ). Told lines p x.before) c.shape (all p x.before x.there) in
        let on = drains_told locals r.shape (IsNotedBy locals nodes p) n x.before x.after end i x.entry x.earlier x.later x.split other was gone in
        let next : State = record u { processors = slice_set r.processors p on.after } in
        let alone : IsProcessorTurn p on.after (ahead_of r t) next = record { turns = x.alone.turns; crashes = x.alone.crashes; shape = x.alone.shape; processors = refl } in
        let made : step_of (ahead_of r t) (Drain p i) ≡ Ok (Left p i x.entry, next) = drain_always (ahead_of r t) next p i (Left p i x.entry) (record {
          before = end;
          after = on.after;
          entry = x.entry;
          earlier = x.earlier;
          later = on.rest;
          turn_left = x.turn_left;
          there = now;
          split = on.split;
          arrived = x.arrived;
          shown = refl;
          alone = alone;
        }) in
        let known = followed_told r next (Drain p i) there tried refl (drain_covered sets r (ahead_of r t) next p i (Left p i x.entry) (covers_ahead_of sets locals r t c) tried.expanded.time made) in
        let is_there = processor_is_now (ahead_of r t) next p on.after alone (within r.processors p end now) in
        let after : Told r.shape p on.after = subst (λ (lines : List ℕ). Told lines p on.after) (x.alone.shape ∙ c.shape) (known p on.after is_there) in
        told_changed t u p x.after x.alone all (subst (λ (lines : List ℕ). Told lines p x.after) (sym c.shape) (on.back after))

    drain_told : (r t u : State) (p i : ℕ) (seen : Seen) → Contains nodes r → IsTried sets locals question nodes r → CoversAhead sets locals r t → AllTold t → step_of t (Drain p i) ≡ Ok (seen, u) → AllTold u
    drain_told r t u p i seen there tried c all e =
        let x = drain_only t u p i seen e in
        elim (fence_or_not x.entry) [
          | inl fence ↦ own_drain t u p i seen all x fence
          | inr other ↦ other_drain r t u p i seen there tried c all x other
        ]

    -- a node covers a state, and of all its processors it is known what runs
    record IsMet (t : State) : Type 0 where
      known : Known sets locals question nodes closed start from t
      told : AllTold t

    crash_told : question.crashes ≡ true → (t u : State) (seen : Seen) → IsMet t → step_of t Crash ≡ Ok (seen, u) → AllTold u
    crash_told asked t u seen met e =
        let persisted = t.memory.persisted in
        let (r, there, tried, looked, shape, restarted, left) = met.known.left persisted (zero, t.memory, refl, refl) in
        let reached = leaves_reached sets r.memory persisted (sound_whole r (from.sound_nodes r there)) left in
        told_as (fallen r persisted) u (lines_stay t u seen e ∙ shape) (processors_after t u seen e ∙ restarted)
        (among_told (fallen r persisted) (looked.falls asked persisted reached))

    step_told : (t u : State) (step : Step) (seen : Seen) → (is_crash step ≡ true → question.crashes ≡ true) → IsMet t → step_of t step ≡ Ok (seen, u) → AllTold u
    step_told t u (Exec p) seen asked met e = let (r, there, tried, c) = met.known.covered in exec_told r t u p seen there tried c met.told e
    step_told t u (Drain p i) seen asked met e = let (r, there, tried, c) = met.known.covered in drain_told r t u p i seen there tried c met.told e
    step_told t u (Persist line) seen asked met e = let x = persist_only t u line seen e in told_as t u x.alone.shape x.alone.processors met.told
    step_told t u Settle seen asked met e = let x = settle_only t u seen e in told_as t u x.alone.shape x.alone.processors met.told
    step_told t u Crash seen asked met e = crash_told (asked refl) t u seen met e

    -- ---- runs

    run_on : (step : Step) (t : State) (result : Result (Seen × State) Refusal) (rest : State → End) → (is_crash step ≡ true → question.crashes ≡ true) → IsMet t
        → step_of t step ≡ result → ((u : State) → IsMet u → IsMet (rest u).state) → IsMet (end_after t result rest).state
    run_on step t (Ok done) rest asked met is each =
        each done.1 (record {
          known = step_known sets locals question nodes (ends_ahead sets locals question nodes closed) (end_covers sets locals) from.sound_nodes (all_looked sets locals question nodes closed) t done.1 step done.0 asked met.known is;
          told = step_told t done.1 step done.0 asked met is;
        })
    run_on step t (Err refusal) rest asked met is each = met

    run_met : (steps : List Step) (t : State) → (list_any is_crash steps ≡ true → question.crashes ≡ true) → IsMet t → IsMet (run_of steps t).state
    run_met [] t asked met = met
    run_met (step ∷ steps) t asked met = run_on step t (step_of t step) (run_of steps) (λ is. asked (rw is refl)) met refl (λ u. run_met steps u (λ is. asked (later (is_crash step) (list_any is_crash steps) is)))
      where
        later : (a b : Bool) → b ≡ true → (a || b) ≡ true
        later true b is = refl
        later false b is = is

    -- an own step, or another
    what_is_executed : (t : State) (p : ℕ) (recovery : Bool) (place : ℕ) → IsMet t → Executes t p recovery place → IsNotedBy locals nodes p recovery place
    what_is_executed t p recovery place met e =
        elim (cases_Bool (is_private locals e.end e.seen)) [
          | inl own ↦ own_executed own
          | inr foreign ↦
              let (r, there, here) = foreign_ran sets locals question nodes t p recovery place met.known.covered e foreign in
              (r, there, Contains-append_left (runs_at r) (later_runs locals r (first_own locals r)) (site p recovery place) (executed_runs r p recovery place here))
        ]
      where
        own_executed : is_private locals e.end e.seen ≡ true → IsNotedBy locals nodes p recovery place
        own_executed own =
            let x = exec_only t e.end p e.seen e.made in
            let run = own_run_of locals t e.end p e.seen x (sym (seen_own locals t e.end p e.seen x) ∙ own) in
            let same : x.before ≡ e.cpu = some_same x.before e.cpu (sym x.there ∙ e.there) in
            let program : x.before.recovering ≡ recovery = ap (λ (y : Processor). y.recovering) same ∙ e.program in
            let at : x.before.place ≡ place = ap (λ (y : Processor). y.place) same ∙ e.at in
            subst (λ (mode : Bool). IsNotedBy locals nodes p mode place) program
            (subst (λ (k : ℕ). IsNotedBy locals nodes p x.before.recovering k) at (met.told p x.before x.there zero x.before x.after refl run))

  -- What a run executes is noted at a node: so what is noted at none never runs.
  pub ran_by_closed : (start t : State) (p : ℕ) (recovery : Bool) (place : ℕ) → AreClosedFrom sets locals question nodes start
      → (steps : List Step) → (list_any is_crash steps ≡ true → question.crashes ≡ true) → (run_of steps start).refusal ≡ None → (run_of steps start).state ≡ t
      → Executes t p recovery place → IsNotedBy locals nodes p recovery place
  ran_by_closed start t p recovery place from steps asked accepted leads e =
      let first : IsMet start from start = record { known = start_known sets locals question nodes from.closed start from; told = among_told start from start from.there } in
      what_is_executed start from t p recovery place (subst (IsMet start from) leads (run_met start from steps start asked first)) e
