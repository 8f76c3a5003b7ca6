-- A step of a state that a node covers ahead: it was made already, or the node makes it too.
use Rattle.std.proofs.Common.{◌≡◌, ◌≢◌, ℕ, zero, suc, ◌+◌, ◌<◌, inl, inr, Bool, true, false, None, Some, Result, Ok, Err, List, [], ◌∷◌, ◌++◌, map, length, refl, sym, ap, ap₂, subst, ◌∙◌, arith, true≢false}
use Rattle.std.proofs.lemmas.Bool.{and_parts, cases_Bool}
use Rattle.std.proofs.lemmas.Bool.Decides.{nat_tests}
use Rattle.std.specs.Prelude.{◌⊎◌, ◌&&◌, ◌||◌, Contains, slice_get, slice_set}
use Rattle.std.specs.List.{list_any}
use Rattle.store_buffer.specs.Buffers.{is_held_by}
use Rattle.store_buffer.specs.declared.entry.Entry.{Entry}
use Rattle.store_buffer.specs.declared.entry.Entry.TheVariants.{Write, Flush, FlushOpt, Sfence}
use Rattle.persist_buffer.specs.State.{Memory}
use Rattle.persist_buffer.specs.declared.entry.PendingEntry.{PendingEntry}
use Rattle.persist_buffer.specs.declared.entry.PendingEntry.TheVariants as pendings
use Rattle.persist_buffer.proofs.PersistingIsASplit.{persisting_always, settling_always}
use Rattle.pending_images.specs.Changes.{IsReached, persists, settles}
use Rattle.isa.specs.Registers.{no_regs}
use Rattle.processor.specs.declared.act.Act.{Act}
use Rattle.processor.specs.declared.act.Act.TheVariants.{Local, Fence, Read, Delay, Locked, Trap}
use Rattle.processor.specs.Acts.{IsShown}
use Rattle.processor.specs.Contents.{Contents}
use Rattle.machine.specs.declared.refusal.Refusal.{Refusal}
use Rattle.machine.specs.declared.step.Seen.{Seen}
use Rattle.machine.specs.declared.step.Seen.TheVariants.{Ran, Left}
use Rattle.machine.specs.declared.step.Step.{Step}
use Rattle.machine.specs.declared.step.Step.TheVariants.{Exec, Drain, Persist, Settle, Crash}
use Rattle.machine.specs.Processors.{contents_of, programs_of, receive_of, restart_of, run_by}
use Rattle.machine.specs.State.{Processor, State}
use Rattle.machine.specs.StepRelations.{IsDrainStep, IsExecStep}
use Rattle.machine.specs.Steps.{End, end_after, run_of, step_of}
use Rattle.machine.proofs.CrashKeepsWhatIsPersisted.{lines_stay, memory_after, processors_after}
use Rattle.machine.proofs.DrainingIsASplit.{fence_disappears, flush_arrives, optimized_flush_arrives, write_arrives}
use Rattle.machine.proofs.ExecShowsAll.{exec_shown}
use Rattle.machine.proofs.PersistAndSettleStepsSplit.{persist_only, settle_only}
use Rattle.machine.proofs.ProgramsStay.{step_sibling}
use Rattle.machine.proofs.ProcessorSteps.{drain_always, drain_only, exec_always, exec_only}
use Rattle.explore.specs.Ahead.{CoversAhead, IsCoveredAhead, IsIdle, IsSeen, IsTried}
use Rattle.explore.specs.Covering.{Covers, SpeaksFor, grown}
use Rattle.explore.specs.Reachable.{is_crash}
use Rattle.explore.specs.declared.question.Question.{Question}
use Rattle.explore.specs.Explored.{IsAmong, IsExpanded, fallen}
use Rattle.explore.specs.Followed.{own_end}
use Rattle.explore.specs.Questions.{is_move}
use Rattle.explore.specs.Own.{Advances, HasGone, HaveGone, is_before, is_own, leaves, place_at, runs}
use Rattle.explore.specs.Sound.{IsSound}
use Rattle.explore.proofs.CoveredSteps.{Follows, Lacks, drain_covered, exec_covered, persist_covered, settle_covered, sound_whole}
use Rattle.explore.specs.LineSets.{AreHeld}
use Rattle.explore.proofs.HeldByLines.{nothing_pending_held, reached_or_held}
use Rattle.explore.proofs.LaterMemories.{IsWhole, reached_before}
use Rattle.explore.proofs.SoundRuns.{step_sound}
use Rattle.explore.proofs.SpeakingFor.{Leaves, leaves_reached, speaks_for_same, speaks_leaves, speaks_then}
use Rattle.explore.proofs.OwnSteps.{Stays, drains_after, fence_is_oldest, join_gone, own_run, own_runs, past_fence, past_run, restarts, runs_after}

-- ---- processors that have gone on

module _ (locals : Bool) (shape : List ℕ) where
  pub gone_none : (cs : List Processor) → HaveGone locals shape cs cs
  gone_none [] = tt
  gone_none (c ∷ cs) = ((zero, refl), gone_none cs)

  pub gone_then : (xs ys zs : List Processor) → HaveGone locals shape xs ys → HaveGone locals shape ys zs → HaveGone locals shape xs zs
  gone_then [] [] zs first more = more
  gone_then [] (y ∷ ys) zs first more = absurd first
  gone_then (x ∷ xs) [] zs first more = absurd first
  gone_then (x ∷ xs) (y ∷ ys) [] first more = absurd more
  gone_then (x ∷ xs) (y ∷ ys) (z ∷ zs) first more = (join_gone locals shape first.0.0 x y z first.0.1 more.0, gone_then xs ys zs first.1 more.1)

  -- where one of them is
  abbrev IsNow : List Processor → ℕ → Processor → Type 0
  IsNow ds p c = (d : Processor) × (slice_get ds p ≡ Some d) × HasGone locals shape c d

  pub gone_at : (cs ds : List Processor) (p : ℕ) (c : Processor) → HaveGone locals shape cs ds → slice_get cs p ≡ Some c → IsNow ds p c
  gone_at [] ds p c gone there = absurd (cc)
  gone_at (x ∷ cs) [] p c gone there = absurd gone
  gone_at (x ∷ cs) (y ∷ ds) zero c gone there = let same : x ≡ c = cc in (y, refl, subst (λ (z : Processor). HasGone locals shape z y) same gone.0)
  gone_at (x ∷ cs) (y ∷ ds) (suc p) c gone there = gone_at cs ds p c gone.1 there

  -- one of them goes on, and was there already
  pub gone_left : (cs ds : List Processor) (p : ℕ) (c d : Processor) → HaveGone locals shape cs ds → slice_get ds p ≡ Some d → HasGone locals shape c d → HaveGone locals shape (slice_set cs p c) ds
  gone_left [] ds p c d gone there more = gone
  gone_left (x ∷ cs) [] p c d gone there more = absurd gone
  gone_left (x ∷ cs) (y ∷ ds) zero c d gone there more = let same : d ≡ y = cc in (subst (λ (z : Processor). HasGone locals shape c z) same more, gone.1)
  gone_left (x ∷ cs) (y ∷ ds) (suc p) c d gone there more = (gone.0, gone_left cs ds p c d gone.1 there more)

  -- in both lists
  pub gone_both : (cs ds : List Processor) (p : ℕ) (c d : Processor) → HaveGone locals shape cs ds → HasGone locals shape c d → HaveGone locals shape (slice_set cs p c) (slice_set ds p d)
  gone_both [] [] p c d gone more = tt
  gone_both [] (y ∷ ds) p c d gone more = absurd gone
  gone_both (x ∷ cs) [] p c d gone more = absurd gone
  gone_both (x ∷ cs) (y ∷ ds) zero c d gone more = (more, gone.1)
  gone_both (x ∷ cs) (y ∷ ds) (suc p) c d gone more = (gone.0, gone_both cs ds p c d gone.1 more)

  pub gone_restarts : (cs ds : List Processor) → HaveGone locals shape cs ds → map restart_of cs ≡ map restart_of ds
  gone_restarts [] [] gone = refl
  gone_restarts [] (y ∷ ds) gone = absurd gone
  gone_restarts (x ∷ cs) [] gone = absurd gone
  gone_restarts (x ∷ cs) (y ∷ ds) gone = ap₂ (λ (c : Processor) (rest : List Processor). c ∷ rest) (sym (restarts locals shape gone.0.0 x y gone.0.1)) (gone_restarts cs ds gone.1)

-- ---- a state in which no step is an own one has no processor that may go on

abbrev pub moved : State → ℕ → Processor → State
moved r p now = record r { turns = r.turns + 1; processors = slice_set r.processors p now }

pub within : {A : Type 0} (xs : List A) (p : ℕ) (x : A) → slice_get xs p ≡ Some x → p < length xs
within [] p x there = absurd (cc)
within (y ∷ xs) zero x there = omega arith
within (y ∷ xs) (suc p) x there = let more = within xs p x there in omega arith

pub place_is : (cpus : List Processor) (p : ℕ) (c d : Processor) → slice_get cpus p ≡ Some c → place_at (slice_set cpus p d) p ≡ d.place
place_is [] p c d there = absurd (cc)
place_is (x ∷ cpus) zero c d there = refl
place_is (x ∷ cpus) (suc p) c d there = place_is cpus p c d there

pub stays_there : (sets locals : Bool) (nodes : List State) (r : State) (p : ℕ) (c : Processor) → IsExpanded sets locals nodes r → IsIdle locals r → slice_get r.processors p ≡ Some c → Stays locals r.shape c
stays_there sets locals nodes r p c expanded idle there d (runs act own rises ran) =
    let made : step_of r (Exec p) ≡ Ok (Ran p c.place act, moved r p d) = exec_always r (moved r p d) p (Ran p c.place act) (record {
      before = c;
      after = d;
      act = act;
      turn_left = expanded.time;
      there = there;
      ran = ran r.memory;
      shown = refl;
      alone = record { turns = refl; crashes = refl; shape = refl; processors = refl };
    }) in
    let before : is_before c.place d.place ≡ true = grind (arith, nat_tests, rises) in
    let private : (is_own locals act && is_before c.place (place_at (slice_set r.processors p d) p)) ≡ true = rw (place_is r.processors p c d there, own, before) refl in
    true≢false (sym private ∙ idle (Exec p) (Ran p c.place act) (moved r p d) refl made)
stays_there sets locals nodes r p c expanded idle there d (leaves later whole is) =
    let made : step_of r (Drain p 0) ≡ Ok (Left p 0 Sfence, moved r p d) = drain_always r (moved r p d) p 0 (Left p 0 Sfence) (record {
      before = c;
      after = d;
      entry = Sfence;
      earlier = [];
      later = later;
      turn_left = expanded.time;
      there = there;
      split = record { whole = whole; place = refl; free = refl; rest = is };
      arrived = refl;
      shown = refl;
      alone = record { turns = refl; crashes = refl; shape = refl; processors = refl };
    }) in
    true≢false (idle (Drain p 0) (Left p 0 Sfence) (moved r p d) refl made)

-- ---- one step

-- the state with the processors of the node
abbrev pub ahead_of : State → State → State
ahead_of r t = record t { processors = r.processors }

pub covers_ahead_of : (sets locals : Bool) (r t : State) → CoversAhead sets locals r t → Covers sets r (ahead_of r t)
covers_ahead_of sets locals r t c = record { shape = c.shape; processors = refl; memory = c.memory }

pub covers_itself : (sets : Bool) (t : State) → Covers sets t t
covers_itself sets t = record { shape = refl; processors = refl; memory = speaks_for_same sets t.memory t.memory refl }

pub fence_or_not : (entry : Entry) → (entry ≡ Sfence) ⊎ (entry ≢ Sfence)
fence_or_not Sfence = inl refl
fence_or_not (Write word value) = inr (λ e. cc)
fence_or_not (Flush line) = inr (λ e. cc)
fence_or_not (FlushOpt line) = inr (λ e. cc)

-- the programs tell how processors restart
pub same_restarts : (cs ds : List Processor) → map programs_of cs ≡ map programs_of ds → map restart_of cs ≡ map restart_of ds
same_restarts [] [] same = refl
same_restarts [] (d ∷ ds) same = absurd (cc)
same_restarts (c ∷ cs) [] same = absurd (cc)
same_restarts (c ∷ cs) (d ∷ ds) same =
    let one : programs_of c ≡ programs_of d = cc in
    let others : map programs_of cs ≡ map programs_of ds = cc in
    ap₂ (λ (x : Processor) (xs : List Processor). x ∷ xs) (one_restart c d one) (same_restarts cs ds others)
  where
    one_restart : (c d : Processor) → programs_of c ≡ programs_of d → restart_of c ≡ restart_of d
    one_restart c d same = λ k. record { main = (same k).main; recovery = (same k).recovery; recovering = true; place = 0; regs = no_regs; trap = None; buffer = [] }

-- a memory is the same, or one more entry is pending in it
abbrev pub HasAtMostOneMore : Memory → Memory → Type 0
HasAtMostOneMore m n = (n ≡ m) ⊎ ((entry : PendingEntry) × (n ≡ grown m (entry ∷ [])))

-- or it is the same, or one more write is pending in it
abbrev pub HasAtMostOneWrite : Memory → Memory → Type 0
HasAtMostOneWrite m n = (n ≡ m) ⊎ ((word : ℕ) × (value : ℕ) × (n ≡ grown m (pendings.Write word value ∷ [])))

shown_writes : (act : Act) (s t : Contents) → IsShown act s t → HasAtMostOneWrite s.memory t.memory
shown_writes Local s t shown = inl (ap (λ (x : Contents). x.memory) shown)
shown_writes Fence s t shown = inl (ap (λ (x : Contents). x.memory) shown.1)
shown_writes (Read word value) s t shown = inl (ap (λ (x : Contents). x.memory) shown.1)
shown_writes (Delay entry) s t shown = inl shown.memory
shown_writes (Locked word value None) s t shown = inl (ap (λ (x : Contents). x.memory) shown.2)
shown_writes (Locked word value (Some new)) s t shown = inr (word, new, λ k. record { pending = shown.2.pending k; persisted = shown.2.persisted k })
shown_writes (Trap address) s t shown = inl (ap (λ (x : Contents). x.memory) shown.1)

pub exec_writes : (t u : State) (p : ℕ) (seen : Seen) → step_of t (Exec p) ≡ Ok (seen, u) → HasAtMostOneWrite t.memory u.memory
exec_writes t u p seen e =
    let x = exec_only t u p seen e in
    shown_writes x.act (contents_of t.shape x.before.buffer t.memory) (contents_of t.shape x.after.buffer u.memory) (exec_shown t.shape x.before x.after t.memory u.memory x.act x.ran)

exec_adds : (t u : State) (p : ℕ) (seen : Seen) → step_of t (Exec p) ≡ Ok (seen, u) → HasAtMostOneMore t.memory u.memory
exec_adds t u p seen e = elim (exec_writes t u p seen e) [ inl same ↦ inl same | inr (word, value, is) ↦ inr (pendings.Write word value, is) ]

received_adds : (entry : Entry) (m n : Memory) → receive_of m entry ≡ Ok n → HasAtMostOneMore m n
received_adds (Write word value) m n e = let a = write_arrives m n word value e in inr (pendings.Write word value, λ k. record { pending = a.pending k; persisted = a.persisted k })
received_adds (Flush line) m n e = let a = flush_arrives m n line e in inr (pendings.Marker line, λ k. record { pending = a.pending k; persisted = a.persisted k })
received_adds (FlushOpt line) m n e = let a = optimized_flush_arrives m n line e in inr (pendings.Marker line, λ k. record { pending = a.pending k; persisted = a.persisted k })
received_adds Sfence m n e = inl (fence_disappears m n e)

drain_adds : (t u : State) (p i : ℕ) (seen : Seen) → step_of t (Drain p i) ≡ Ok (seen, u) → HasAtMostOneMore t.memory u.memory
drain_adds t u p i seen e = let x = drain_only t u p i seen e in received_adds x.entry t.memory u.memory x.arrived

pub move_adds : (t u : State) (step : Step) (seen : Seen) → is_move step ≡ true → step_of t step ≡ Ok (seen, u) → HasAtMostOneMore t.memory u.memory
move_adds t u (Exec p) seen move e = exec_adds t u p seen e
move_adds t u (Drain p i) seen move e = drain_adds t u p i seen e
move_adds t u (Persist line) seen move e = absurd (true≢false (sym move))
move_adds t u Settle seen move e = absurd (true≢false (sym move))
move_adds t u Crash seen move e = absurd (true≢false (sym move))

-- what is like a node, a node covers ahead
abbrev pub Ends : Bool → Bool → Question → List State → Type 0
Ends sets locals question nodes = (s : State) → IsAmong sets nodes s → IsCoveredAhead sets locals question nodes s

pub alike_ahead : (sets locals : Bool) (r s t : State) → CoversAhead sets locals r s → Covers sets s t → CoversAhead sets locals r t
alike_ahead sets locals r s t c more = record {
  shape = more.shape ∙ c.shape;
  processors = subst (λ (cpus : List Processor). HaveGone locals r.shape cpus r.processors) (sym more.processors) c.processors;
  memory = speaks_then sets r.memory s.memory t.memory c.memory more.memory;
}

-- first own steps of t, and then a node
pub ahead_then : (sets locals : Bool) (r s t : State) → CoversAhead sets locals r s → CoversAhead sets locals s t → CoversAhead sets locals r t
ahead_then sets locals r s t c more = record {
  shape = more.shape ∙ c.shape;
  processors = gone_then locals r.shape t.processors s.processors r.processors (subst (λ (shape : List ℕ). HaveGone locals shape t.processors s.processors) c.shape more.processors) c.processors;
  memory = speaks_then sets r.memory s.memory t.memory c.memory more.memory;
}

pub covered_then : (sets locals : Bool) (question : Question) (nodes : List State) (s t : State) → IsCoveredAhead sets locals question nodes s → CoversAhead sets locals s t → IsCoveredAhead sets locals question nodes t
covered_then sets locals question nodes s t (r, there, tried, c) more = (r, there, tried, ahead_then sets locals r s t c more)

-- What a crash may leave of a state, a node may leave in which no step is an own one, whose images are looked at, and that is of the same machine.
abbrev pub IsLeftBy : Bool → Bool → Question → List State → State → List ℕ → Type 0
IsLeftBy sets locals question nodes t persisted =
    (r : State) × Contains nodes r × IsTried sets locals question nodes r × IsSeen sets question nodes r
    × (t.shape ≡ r.shape) × (map restart_of t.processors ≡ map restart_of r.processors) × Leaves sets r.memory persisted

-- what a node may leave, one may whose images are looked at
abbrev pub AreLookedAt : Bool → Bool → Question → List State → Type 0
AreLookedAt sets locals question nodes =
    (r : State) (persisted : List ℕ) → Contains nodes r → IsTried sets locals question nodes r → Leaves sets r.memory persisted → IsLeftBy sets locals question nodes r persisted

-- the state to which own steps lead covers the one that they follow
abbrev pub EndsCover : Bool → Bool → Type 0
EndsCover sets locals = (s : State) → CoversAhead sets locals (own_end locals s) s

module _ (sets locals : Bool) (question : Question) (nodes : List State) (ends : Ends sets locals question nodes) (end_covers : EndsCover sets locals) (sounds : (r : State) → Contains nodes r → IsSound r) where
  -- a step that a node makes too, the own steps behind it, and what they cover
  followed : (r u' u : State) (step : Step) → IsExpanded sets locals nodes r → is_move step ≡ true → Lacks r step ⊎ Follows sets r step u' → CoversAhead sets locals u' u → IsCoveredAhead sets locals question nodes u
  followed r u' u step expanded move (inl lacks) gone = absurd (true≢false (sym lacks.room ∙ expanded.room step lacks.refusal move lacks.refused))
  followed r u' u step expanded move (inr follows) gone =
      let covered = covered_then sets locals question nodes (own_end locals follows.end) follows.end (ends (own_end locals follows.end) (expanded.moves step follows.seen follows.end move follows.made)) (end_covers follows.end) in
      let (s, there, tried, c) = covered in
      (s, there, tried, ahead_then sets locals s u' u (alike_ahead sets locals s follows.end u' c follows.covers) gone)

  own_exec : (r t u : State) (p : ℕ) (seen : Seen) (n : ℕ) (end : Processor) → Contains nodes r → IsTried sets locals question nodes r → CoversAhead sets locals r t → (x : IsExecStep p t u seen)
      → slice_get r.processors p ≡ Some end → Advances locals r.shape n x.before end → run_by r.shape x.before t.memory ≡ Ok (x.act, (x.after, u.memory))
      → (is_own locals x.act && is_before x.before.place x.after.place) ≡ true → IsCoveredAhead sets locals question nodes u
  own_exec r t u p seen n end there tried c x now gone ran mine =
      let both = and_parts (is_own locals x.act) (is_before x.before.place x.after.place) mine in
      let before = both.1 in
      let rises : x.before.place < x.after.place = grind (arith, nat_tests, before) in
      let still = (own_run locals r.shape x.before x.after t.memory u.memory t.memory x.act x.before.buffer both.0 (omega arith) ran).memory in
      let more = past_run locals r.shape n x.before x.after end x.act both.0 rises (own_runs locals r.shape x.before x.after t.memory u.memory x.act both.0 ran) gone (stays_there sets locals nodes r p end tried.expanded tried.idle now) in (
        r,
        there,
        tried,
        record {
          shape = x.alone.shape ∙ c.shape;
          processors = subst (λ (cpus : List Processor). HaveGone locals r.shape cpus r.processors) (sym x.alone.processors) (gone_left locals r.shape t.processors r.processors p x.after end c.processors now more);
          memory = subst (λ (m : Memory). SpeaksFor sets r.memory m) (sym still) c.memory;
        },
      )

  -- the state after a step that a node makes too, with the node's processors
  both_on : (r t u : State) (p : ℕ) (after now : Processor) → CoversAhead sets locals r t → u.shape ≡ t.shape → u.processors ≡ slice_set t.processors p after → HasGone locals r.shape after now
      → CoversAhead sets locals (record u { processors = slice_set r.processors p now }) u
  both_on r t u p after now c shape processors gone = record {
    shape = refl;
    processors = subst (λ (lines : List ℕ). HaveGone locals lines u.processors (slice_set r.processors p now)) (sym (shape ∙ c.shape))
        (subst (λ (cpus : List Processor). HaveGone locals r.shape cpus (slice_set r.processors p now)) (sym processors) (gone_both locals r.shape t.processors r.processors p after now c.processors gone));
    memory = speaks_for_same sets u.memory u.memory refl;
  }

  other_exec : (r t u : State) (p : ℕ) (seen : Seen) (n : ℕ) (end : Processor) → IsTried sets locals question nodes r → CoversAhead sets locals r t → (x : IsExecStep p t u seen)
      → slice_get r.processors p ≡ Some end → Advances locals r.shape n x.before end → run_by r.shape x.before t.memory ≡ Ok (x.act, (x.after, u.memory))
      → (is_own locals x.act && is_before x.before.place x.after.place) ≡ false → IsCoveredAhead sets locals question nodes u
  other_exec r t u p seen n end tried c x now gone ran foreign =
      let on = runs_after locals r.shape n x.before x.after end t.memory u.memory x.act ran foreign gone in
      let next : State = record u { processors = slice_set r.processors p on.after } in
      let made : step_of (ahead_of r t) (Exec p) ≡ Ok (Ran p end.place x.act, next) = exec_always (ahead_of r t) next p (Ran p end.place x.act) (record {
        before = end;
        after = on.after;
        act = x.act;
        turn_left = x.turn_left;
        there = now;
        ran = ap (λ (shape : List ℕ). run_by shape end t.memory) c.shape ∙ on.ran;
        shown = refl;
        alone = record { turns = x.alone.turns; crashes = x.alone.crashes; shape = x.alone.shape; processors = refl };
      }) in
      followed r next u (Exec p) tried.expanded refl (exec_covered sets r (ahead_of r t) next p (Ran p end.place x.act) (covers_ahead_of sets locals r t c) tried.expanded.time made)
      (both_on r t u p x.after on.after c x.alone.shape x.alone.processors on.gone)

  exec_ahead : (r t u : State) (p : ℕ) (seen : Seen) → Contains nodes r → IsTried sets locals question nodes r → CoversAhead sets locals r t → step_of t (Exec p) ≡ Ok (seen, u) → IsCoveredAhead sets locals question nodes u
  exec_ahead r t u p seen there tried c e =
      let x = exec_only t u p seen e in
      let now = gone_at locals r.shape t.processors r.processors p x.before c.processors x.there in
      let ran : run_by r.shape x.before t.memory ≡ Ok (x.act, (x.after, u.memory)) = ap (λ (shape : List ℕ). run_by shape x.before t.memory) (sym c.shape) ∙ x.ran in
      elim (cases_Bool (is_own locals x.act && is_before x.before.place x.after.place)) [
        | inl mine ↦ own_exec r t u p seen now.2.0 now.0 there tried c x now.1 now.2.1 ran mine
        | inr foreign ↦ other_exec r t u p seen now.2.0 now.0 tried c x now.1 now.2.1 ran foreign
      ]

  own_drain : (r t u : State) (p i : ℕ) (seen : Seen) (n : ℕ) (end : Processor) → Contains nodes r → IsTried sets locals question nodes r → CoversAhead sets locals r t → (x : IsDrainStep p i t u seen)
      → slice_get r.processors p ≡ Some end → Advances locals r.shape n x.before end → x.entry ≡ Sfence → IsCoveredAhead sets locals question nodes u
  own_drain r t u p i seen n end there tried c x now gone fence =
      let none : x.earlier ≡ [] = fence_is_oldest x.earlier (ap (λ (e : Entry). list_any (is_held_by e) x.earlier) (sym fence) ∙ x.split.free) in
      let whole : x.before.buffer ≡ Sfence ∷ x.later = x.split.whole ∙ (λ k. none k ++ fence k ∷ x.later) in
      let after : x.after ≡ record x.before { buffer = x.later } = x.split.rest ∙ ap (λ (b : List Entry). record x.before { buffer = b ++ x.later }) none in
      let still : u.memory ≡ t.memory = fence_disappears t.memory u.memory (ap (receive_of t.memory) (sym fence) ∙ x.arrived) in
      let more = past_fence locals r.shape n x.before x.after end x.later whole after gone (stays_there sets locals nodes r p end tried.expanded tried.idle now) in (
        r,
        there,
        tried,
        record {
          shape = x.alone.shape ∙ c.shape;
          processors = subst (λ (cpus : List Processor). HaveGone locals r.shape cpus r.processors) (sym x.alone.processors) (gone_left locals r.shape t.processors r.processors p x.after end c.processors now more);
          memory = subst (λ (m : Memory). SpeaksFor sets r.memory m) (sym still) c.memory;
        },
      )

  other_drain : (r t u : State) (p i : ℕ) (seen : Seen) (n : ℕ) (end : Processor) → IsTried sets locals question nodes r → CoversAhead sets locals r t → (x : IsDrainStep p i t u seen)
      → slice_get r.processors p ≡ Some end → Advances locals r.shape n x.before end → x.entry ≢ Sfence → IsCoveredAhead sets locals question nodes u
  other_drain r t u p i seen n end tried c x now gone other =
      let on = drains_after locals r.shape n x.before x.after end i x.entry x.earlier x.later x.split other gone in
      let next : State = record u { processors = slice_set r.processors p on.after } in
      let made : step_of (ahead_of r t) (Drain p i) ≡ Ok (Left p i x.entry, next) = drain_always (ahead_of r t) next p i (Left p i x.entry) (record {
        before = end;
        after = on.after;
        entry = x.entry;
        earlier = x.earlier;
        later = on.rest;
        turn_left = x.turn_left;
        there = now;
        split = on.split;
        arrived = x.arrived;
        shown = refl;
        alone = record { turns = x.alone.turns; crashes = x.alone.crashes; shape = x.alone.shape; processors = refl };
      }) in
      followed r next u (Drain p i) tried.expanded refl (drain_covered sets r (ahead_of r t) next p i (Left p i x.entry) (covers_ahead_of sets locals r t c) tried.expanded.time made)
      (both_on r t u p x.after on.after c x.alone.shape x.alone.processors on.gone)

  drain_ahead : (r t u : State) (p i : ℕ) (seen : Seen) → Contains nodes r → IsTried sets locals question nodes r → CoversAhead sets locals r t → step_of t (Drain p i) ≡ Ok (seen, u) → IsCoveredAhead sets locals question nodes u
  drain_ahead r t u p i seen there tried c e =
      let x = drain_only t u p i seen e in
      let now = gone_at locals r.shape t.processors r.processors p x.before c.processors x.there in
      elim (fence_or_not x.entry) [
        | inl fence ↦ own_drain r t u p i seen now.2.0 now.0 there tried c x now.1 now.2.1 fence
        | inr other ↦ other_drain r t u p i seen now.2.0 now.0 tried c x now.1 now.2.1 other
      ]

  -- what a crash may leave of a state, a node leaves
  abbrev pub IsLeft : State → List ℕ → Type 0
  IsLeft t persisted = IsLeftBy sets locals question nodes t persisted

  -- A node covers a state, and all that a crash may leave of it, one may leave of a node.
  pub record IsKnown (t : State) : Type 0 where
    pub sound : IsSound t
    pub covered : IsCoveredAhead sets locals question nodes t
    pub left : (persisted : List ℕ) → IsReached t.memory persisted → IsLeft t persisted

  crash_ahead : question.crashes ≡ true → (t u : State) (seen : Seen) → IsKnown t → step_of t Crash ≡ Ok (seen, u) → IsCoveredAhead sets locals question nodes u
  crash_ahead asked t u seen known e =
      let persisted = t.memory.persisted in
      let (r, there, tried, looked, shape, restarted, left) = known.left persisted (zero, t.memory, refl, refl) in
      let reached = leaves_reached sets r.memory persisted (sound_whole r (sounds r there)) left in
      covered_then sets locals question nodes (fallen r persisted) u (ends (fallen r persisted) (looked.falls asked persisted reached)) (record {
        shape = lines_stay t u seen e ∙ shape;
        processors = subst (λ (cpus : List Processor). HaveGone locals r.shape cpus (map restart_of r.processors)) (sym (processors_after t u seen e ∙ restarted)) (gone_none locals r.shape (map restart_of r.processors));
        memory = speaks_for_same sets (fallen r persisted).memory u.memory (memory_after t u seen e);
      })

  pub step_ahead : (t u : State) (step : Step) (seen : Seen) → (is_crash step ≡ true → question.crashes ≡ true) → IsKnown t → step_of t step ≡ Ok (seen, u) → IsCoveredAhead sets locals question nodes u
  step_ahead t u (Exec p) seen asked known e = let (r, there, tried, c) = known.covered in exec_ahead r t u p seen there tried c e
  step_ahead t u (Drain p i) seen asked known e = let (r, there, tried, c) = known.covered in drain_ahead r t u p i seen there tried c e
  step_ahead t u (Persist line) seen asked known e =
      let (r, there, tried, c) = known.covered in (r, there, tried, alike_ahead sets locals r t u c (persist_covered sets t t u line seen known.sound (covers_itself sets t) e))
  step_ahead t u Settle seen asked known e =
      let (r, there, tried, c) = known.covered in (r, there, tried, alike_ahead sets locals r t u c (settle_covered sets t t u seen known.sound (covers_itself sets t) e))
  step_ahead t u Crash seen asked known e = crash_ahead (asked refl) t u seen known e

  -- ---- what a crash may leave

  module _ (looks : AreLookedAt sets locals question nodes) where
    -- what a node leaves that covers a state, one leaves whose images are looked at
    node_left : (u : State) (persisted : List ℕ) → (covered : IsCoveredAhead sets locals question nodes u) → Leaves sets covered.0.memory persisted → IsLeft u persisted
    node_left u persisted (r, there, tried, c) left =
        let (n, is_there, is_tried, looked, shape, restarted, shown) = looks r persisted there tried left in
        (n, is_there, is_tried, looked, c.shape ∙ shape, gone_restarts locals r.shape u.processors r.processors c.processors ∙ restarted, shown)

    -- so what the lines may hold is left
    held_left : (u : State) (persisted : List ℕ) → IsSound u → IsCoveredAhead sets locals question nodes u → AreHeld u.memory persisted → IsLeft u persisted
    held_left u persisted sound (r, there, tried, c) held =
        node_left u persisted (r, there, tried, c) (speaks_leaves sets r.memory u.memory persisted (sound_whole r (sounds r there)) (sound_whole u sound) c.memory held)

    -- what was left before the step is still
    left_before : (t u : State) (step : Step) (seen : Seen) (persisted : List ℕ) → step_of t step ≡ Ok (seen, u) → IsLeft t persisted → IsLeft u persisted
    left_before t u step seen persisted e (r, there, tried, looked, shape, restarted, left) =
        let s = step_sibling t u step seen e in
        (r, there, tried, looked, s.shape ∙ shape, same_restarts u.processors t.processors s.programs ∙ restarted, left)

    -- at most one entry is added
    more_left : (t u : State) (step : Step) (seen : Seen) → IsKnown t → IsSound u → IsCoveredAhead sets locals question nodes u → step_of t step ≡ Ok (seen, u) → HasAtMostOneMore t.memory u.memory
        → (persisted : List ℕ) → IsReached u.memory persisted → IsLeft u persisted
    more_left t u step seen known sound covered e (inl same) persisted reached =
        left_before t u step seen persisted e (known.left persisted (subst (λ (m : Memory). IsReached m persisted) same reached))
    more_left t u step seen known sound covered e (inr (entry, is)) persisted reached =
        elim (reached_or_held t.memory entry persisted (subst IsWhole is (sound_whole u sound)) (subst (λ (m : Memory). IsReached m persisted) is reached)) [
          | inl before ↦ left_before t u step seen persisted e (known.left persisted before)
          | inr held ↦ held_left u persisted sound covered (subst (λ (m : Memory). AreHeld m persisted) (sym is) held)
        ]

    step_left : (t u : State) (step : Step) (seen : Seen) → IsKnown t → IsSound u → IsCoveredAhead sets locals question nodes u → step_of t step ≡ Ok (seen, u)
        → (persisted : List ℕ) → IsReached u.memory persisted → IsLeft u persisted
    step_left t u (Exec p) seen known sound covered e = more_left t u (Exec p) seen known sound covered e (exec_adds t u p seen e)
    step_left t u (Drain p i) seen known sound covered e = more_left t u (Drain p i) seen known sound covered e (drain_adds t u p i seen e)
    step_left t u (Persist line) seen known sound covered e = λ persisted (n, end, run, is).
        let x = persist_only t u line seen e in
        left_before t u (Persist line) seen persisted e
        (known.left persisted (suc n, end, (u.memory, persists line x.word x.value (persisting_always line t.memory u.memory x.word x.value x.before x.later x.split), run), is))
    step_left t u Settle seen known sound covered e = λ persisted (n, end, run, is).
        let x = settle_only t u seen e in
        left_before t u Settle seen persisted e (known.left persisted (suc n, end, (u.memory, settles x.line (settling_always x.line t.memory u.memory x.before x.later x.split), run), is))
    step_left t u Crash seen known sound covered e = λ persisted reached.
        held_left u persisted sound covered (nothing_pending_held u.memory persisted (sound_whole u sound) (ap (λ (m : Memory). m.pending) (memory_after t u seen e)) reached)

    pub step_known : (t u : State) (step : Step) (seen : Seen) → (is_crash step ≡ true → question.crashes ≡ true) → IsKnown t → step_of t step ≡ Ok (seen, u) → IsKnown u
    step_known t u step seen asked known e =
        let sound = step_sound t u step seen known.sound e in
        let covered = step_ahead t u step seen asked known e in
        record { sound = sound; covered = covered; left = step_left t u step seen known sound covered e }

    run_on : (step : Step) (t : State) (result : Result (Seen × State) Refusal) (rest : State → End) → (is_crash step ≡ true → question.crashes ≡ true) → IsKnown t
        → step_of t step ≡ result → ((u : State) → IsKnown u → IsKnown (rest u).state) → IsKnown (end_after t result rest).state
    run_on step t (Ok done) rest asked known is each = each done.1 (step_known t done.1 step done.0 asked known is)
    run_on step t (Err refusal) rest asked known is each = known

    pub run_known : (steps : List Step) (t : State) → (list_any is_crash steps ≡ true → question.crashes ≡ true) → IsKnown t → IsKnown (run_of steps t).state
    run_known [] t asked known = known
    run_known (step ∷ steps) t asked known = run_on step t (step_of t step) (run_of steps) (λ is. asked (rw is refl)) known refl (λ u. run_known steps u (λ is. asked (later (is_crash step) (list_any is_crash steps) is)))
      where
        later : (a b : Bool) → b ≡ true → (a || b) ≡ true
        later true b is = refl
        later false b is = is

    -- at first: where keys tell what lines may hold, nothing is pending
    first_left : (b : Bool) → sets ≡ b → (start : State) → IsSound start → (b ≡ true → start.memory.pending ≡ []) → IsCoveredAhead sets locals question nodes start
        → (persisted : List ℕ) → IsReached start.memory persisted → IsLeft start persisted
    first_left true is start sound begins covered persisted reached = held_left start persisted sound covered (nothing_pending_held start.memory persisted (sound_whole start sound) (begins refl) reached)
    first_left false is start sound begins (r, there, tried, c) persisted reached =
        node_left start persisted (r, there, tried, c) (subst (λ (b : Bool). Leaves b r.memory persisted) (sym is)
        (reached_before r.memory start.memory persisted (subst (λ (b : Bool). SpeaksFor b r.memory start.memory) is c.memory) reached))

    pub first_known : (start : State) → IsSound start → (sets ≡ true → start.memory.pending ≡ []) → IsCoveredAhead sets locals question nodes start → IsKnown start
    first_known start sound begins covered = record { sound = sound; covered = covered; left = first_left sets refl start sound begins covered }
