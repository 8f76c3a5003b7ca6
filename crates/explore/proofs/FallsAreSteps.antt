-- The entries of a closed set leave by steps, and a crash follows.
use Rattle.std.proofs.Common.{◌≡◌, ℕ, suc, ◌+◌, ◌<◌, ◌≤◌, Bool, true, false, Some, None, Ok, List, [], ◌∷◌, ◌++◌, length, map, refl, sym, ap, subst, ◌∙◌, arith, append_assoc, length-append, true≢false}
use Rattle.std.specs.Prelude.{slice_index_or}
use Rattle.std.specs.List.{AllByRecursion, list_any}
use Rattle.lines_layout.specs.Lines.{line_of}
use Rattle.persist_buffer.specs.declared.entry.PendingEntry.{PendingEntry}
use Rattle.persist_buffer.specs.declared.entry.PendingEntry.TheVariants.{Write, Marker}
use Rattle.persist_buffer.specs.Listings.{LinesBelow}
use Rattle.persist_buffer.specs.Memories.{is_marker, is_write_on}
use Rattle.persist_buffer.specs.State.{Memory}
use Rattle.pending_images.specs.ClosedSets.{flagged, line_named}
use Rattle.pending_images.specs.Cuts.{after, written}
use Rattle.pending_images.specs.LeastSets.{places_from}
use Rattle.pending_images.proofs.ClosedSetsByEntry.{NoneIsLeft, NoneWaits, none_is_left}
use Rattle.pending_images.specs.Changes.{IsReached}
use Rattle.pending_images.proofs.ImagesAreCuts.{closed_law}
use Rattle.pending_images.proofs.CutOfRun.{line_there, lines_left}
use Rattle.pending_images.proofs.LeavingEntries.{IsFree}
use Rattle.machine.specs.declared.step.Step.{Step}
use Rattle.machine.specs.declared.step.Step.TheVariants.{Crash}
use Rattle.machine.specs.declared.step.Seen.{Seen}
use Rattle.machine.specs.declared.step.Seen.TheVariants.{Persisted, Settled}
use Rattle.machine.specs.Limits.{max_turns}
use Rattle.machine.specs.Processors.{restart_of}
use Rattle.machine.specs.State.{State}
use Rattle.machine.specs.Steps.{end_after, run_of, step_of}
use Rattle.machine.proofs.CrashKeepsWhatIsPersisted.{crash_always, lines_stay, memory_after, processors_after}
use Rattle.machine.proofs.PersistAndSettleStepsSplit.{persist_always, settle_always}
use Rattle.machine.proofs.RunIsAPrefix.{run_parts}
use Rattle.images.specs.Images.{IsLeastSet, image_at}
use Rattle.images.proofs.StepsReach.{lines_within}
use Rattle.explore.specs.Questions.{AreAlike}
use Rattle.explore.specs.Explored.{fallen}
use Rattle.explore.specs.Sound.{IsSound}
use Rattle.explore.specs.Falls.{IsFall, fall_at, fall_by, step_for}

-- ---- one entry leaves

no_marker_of : (line : ℕ) (es : List PendingEntry) → IsFree line es → list_any is_marker es ≡ false
no_marker_of line [] free = refl
no_marker_of line (Write word value ∷ es) free = no_marker_of line es free.1
no_marker_of line (Marker other ∷ es) free = absurd (true≢false free.0)

no_write_of : (line : ℕ) (es : List PendingEntry) → IsFree line es → list_any (is_write_on line) es ≡ false
no_write_of line [] free = refl
no_write_of line (Write word value ∷ es) free = rw (free.0) (no_write_of line es free.1)
no_write_of line (Marker other ∷ es) free = absurd (true≢false free.0)

abbrev turned : State → Memory → State
turned s m = record s { turns = s.turns + 1; memory = m }

abbrev shown_for : PendingEntry → Seen
shown_for (Write word value) = Persisted word value
shown_for (Marker line) = Settled line

pub left_by : (s : State) (earlier later : List PendingEntry) (entry : PendingEntry) → LinesBelow (length s.shape) s.memory.pending → s.turns < max_turns
    → s.memory.pending ≡ earlier ++ entry ∷ later → IsFree (line_named entry) earlier
    → step_of s (step_for entry) ≡ Ok (shown_for entry, turned s (record { pending = earlier ++ later; persisted = after entry s.memory.persisted }))
left_by s earlier later (Write word value) below left was free =
    persist_always s _ (line_of word) (Persisted word value) (record {
      word = word;
      value = value;
      before = earlier;
      later = later;
      turn_left = left;
      there = line_there (length s.shape) earlier word value later (subst (LinesBelow (length s.shape)) was below);
      split = record { on_line = refl; whole = was; no_marker = no_marker_of (line_of word) earlier free; no_write = no_write_of (line_of word) earlier free; rest = refl; persisted = refl };
      shown = refl;
      alone = record { turns = refl; crashes = refl; shape = refl; processors = refl };
    })
left_by s earlier later (Marker line) below left was free =
    settle_always s _ (Settled line) (record {
      line = line;
      before = earlier;
      later = later;
      turn_left = left;
      split = record { whole = was; no_marker = no_marker_of line earlier free; no_write = no_write_of line earlier free; rest = refl; persisted = refl };
      shown = refl;
      alone = record { turns = refl; crashes = refl; shape = refl; processors = refl };
    })

-- ---- one after another

free_now : (e : PendingEntry) (es : List PendingEntry) (flags : List Bool) (skipped : List PendingEntry) → AllByRecursion (λ f. NoneWaits f (e ∷ es) (true ∷ flags)) skipped → IsFree (line_named e) skipped
free_now e es flags [] h = tt
free_now e es flags (f ∷ fs) h = (h.0.0, free_now e es flags fs h.1)

free_later : (e : PendingEntry) (es : List PendingEntry) (flags : List Bool) (skipped : List PendingEntry) → AllByRecursion (λ f. NoneWaits f (e ∷ es) (true ∷ flags)) skipped → AllByRecursion (λ f. NoneWaits f es flags) skipped
free_later e es flags [] h = tt
free_later e es flags (f ∷ fs) h = (h.0.1, free_later e es flags fs h.1)

one_more : (P : PendingEntry → Type 0) (e : PendingEntry) (skipped : List PendingEntry) → AllByRecursion P skipped → P e → AllByRecursion P (skipped ++ e ∷ [])
one_more P e [] h p = (p, tt)
one_more P e (f ∷ fs) h p = (h.0, one_more P e fs h.1 p)

-- steps that change the memory alone
record Persists (s : State) (steps : List Step) (persisted : List ℕ) (most : ℕ) : Type 0 where
  accepted : (run_of steps s).refusal ≡ None
  shape : (run_of steps s).state.shape ≡ s.shape
  processors : (run_of steps s).state.processors ≡ s.processors
  values : (run_of steps s).state.memory.persisted ≡ persisted
  turns : (run_of steps s).state.turns ≤ s.turns + most

none_persists : (s : State) (most : ℕ) → Persists s [] s.memory.persisted most
none_persists s most = record { accepted = refl; shape = refl; processors = refl; values = refl; turns = omega arith }

abbrev left_of : State → PendingEntry → List PendingEntry → List PendingEntry → State
left_of s entry earlier later = turned s (record { pending = earlier ++ later; persisted = after entry s.memory.persisted })

then_persists : (s t : State) (step : Step) (seen : Seen) (steps : List Step) (persisted : List ℕ) (most : ℕ) → step_of s step ≡ Ok (seen, t) → t.shape ≡ s.shape → t.processors ≡ s.processors → t.turns ≡ s.turns + 1
    → Persists t steps persisted most → Persists s (step ∷ steps) persisted (suc most)
then_persists s t step seen steps persisted most e shape processors turns p = record {
  accepted = rw e p.accepted;
  shape = rw e (p.shape ∙ shape);
  processors = rw e (p.processors ∙ processors);
  values = rw e p.values;
  turns = rw e (let more = p.turns in omega (arith, more, turns));
}

more_turns : (s : State) (steps : List Step) (persisted : List ℕ) (most : ℕ) → Persists s steps persisted most → Persists s steps persisted (suc most)
more_turns s steps persisted most p = record { accepted = p.accepted; shape = p.shape; processors = p.processors; values = p.values; turns = (let more = p.turns in omega (arith, more)) }

persists_past : (es : List PendingEntry) (flags : List Bool) (skipped : List PendingEntry) (s : State) → LinesBelow (length s.shape) s.memory.pending → s.turns + length es ≤ max_turns
    → s.memory.pending ≡ skipped ++ es → AllByRecursion (λ f. NoneWaits f es flags) skipped → NoneIsLeft es flags
    → Persists s (map step_for (flagged es flags)) (written (flagged es flags) s.memory.persisted) (length es)
persists_past [] flags skipped s below room is past closed = none_persists s 0
persists_past (e ∷ es) [] skipped s below room is past closed = none_persists s (length (e ∷ es))
persists_past (e ∷ es) (true ∷ flags) skipped s below room is past closed =
    let t = left_of s e skipped es in
    let made = left_by s skipped es e below (omega (arith, room)) is (free_now e es flags skipped past) in
    let still = lines_left (length s.shape) skipped e es (subst (LinesBelow (length s.shape)) is below) in
    then_persists s t (step_for e) (shown_for e) (map step_for (flagged es flags)) (written (flagged es flags) t.memory.persisted) (length es) made refl refl refl
    (persists_past es flags skipped t still (omega (arith, room)) refl (free_later e es flags skipped past) closed)
persists_past (e ∷ es) (false ∷ flags) skipped s below room is past closed =
    more_turns s (map step_for (flagged es flags)) (written (flagged es flags) s.memory.persisted) (length es)
    (persists_past es flags (skipped ++ e ∷ []) s below (omega (arith, room)) (is ∙ sym (append_assoc skipped (e ∷ []) es)) (one_more (λ f. NoneWaits f es flags) e skipped past closed.0) closed.1)

-- ---- and then a crash

crash_then : (s : State) (steps : List Step) (persisted : List ℕ) (most : ℕ) → Persists s steps persisted most → s.turns + most < max_turns → IsFall s persisted (steps ++ Crash ∷ [])
crash_then s steps persisted most p room =
    let mid = (run_of steps s).state in
    let turns = p.turns in
    let crashed = crash_always mid (omega (arith, turns, room)) in
    let end = crashed.0 in
    let last : run_of (Crash ∷ []) mid ≡ record { accepted = 0 + 1; refusal = None; state = end } = ap (λ r. end_after mid r (run_of [])) crashed.1 in
    let whole = run_parts steps (Crash ∷ []) s p.accepted in
    let leads : (run_of (steps ++ Crash ∷ []) s).state ≡ end = ap (λ e. e.state) whole ∙ ap (λ e. e.state) last in
    record {
      accepted = ap (λ e. e.refusal) whole ∙ ap (λ e. e.refusal) last;
      leaves = subst (λ (x : State). AreAlike x (fallen s persisted)) (sym leads) (record {
        shape = sym (lines_stay mid end _ crashed.1 ∙ p.shape);
        processors = sym (processors_after mid end _ crashed.1 ∙ ap (map restart_of) p.processors);
        memory = sym (memory_after mid end _ crashed.1 ∙ ap (λ (xs : List ℕ). record { pending = []; persisted = xs }) p.values);
      });
    }

pub closed_set_falls : (s : State) (flags : List Bool) → LinesBelow (length s.shape) s.memory.pending → s.turns + length s.memory.pending < max_turns → NoneIsLeft s.memory.pending flags
    → IsFall s (written (flagged s.memory.pending flags) s.memory.persisted) (fall_by s.memory.pending flags)
closed_set_falls s flags below room closed =
    crash_then s (map step_for (flagged s.memory.pending flags)) (written (flagged s.memory.pending flags) s.memory.persisted) (length s.memory.pending)
    (persists_past s.memory.pending flags [] s below (omega (arith, room)) refl tt closed) room

-- ---- the same by places

at_seam : (pre es : List PendingEntry) (e : PendingEntry) → slice_index_or (pre ++ e ∷ es) (length pre) (Marker 0) ≡ e
at_seam [] es e = refl
at_seam (x ∷ pre) es e = at_seam pre es e

by_places : (all pre es : List PendingEntry) (i : ℕ) (flags : List Bool) → all ≡ pre ++ es → i ≡ length pre → length flags ≤ length es
    → map (λ place. step_for (slice_index_or all place (Marker 0))) (places_from i flags) ≡ map step_for (flagged es flags)
by_places all pre [] i [] is at few = refl
by_places all pre [] i (flag ∷ flags) is at few = absurd (omega (arith, few))
by_places all pre (e ∷ es) i [] is at few = refl
by_places all pre (e ∷ es) i (true ∷ flags) is at few =
    let here : slice_index_or all i (Marker 0) ≡ e = (λ k. slice_index_or (is k) (at k) (Marker 0)) ∙ at_seam pre es e in
    let rest = by_places all (pre ++ e ∷ []) es (i + 1) flags (is ∙ sym (append_assoc pre (e ∷ []) es)) (ap (λ (n : ℕ). n + 1) at ∙ sym (length-append pre (e ∷ []))) (omega (arith, few)) in
    λ k. step_for (here k) ∷ rest k
by_places all pre (e ∷ es) i (false ∷ flags) is at few =
    by_places all (pre ++ e ∷ []) es (i + 1) flags (is ∙ sym (append_assoc pre (e ∷ []) es)) (ap (λ (n : ℕ). n + 1) at ∙ sym (length-append pre (e ∷ []))) (omega (arith, few))

pub falls_by_places : (s : State) (places : List ℕ) (image : List ℕ) → IsSound s → s.turns + length s.memory.pending < max_turns → IsLeastSet s image (Some places)
    → (persisted : List ℕ) × (image ≡ image_at s.shape persisted) × IsReached s.memory persisted × IsFall s persisted (fall_at s.memory.pending places)
falls_by_places s places image sound room (flags, least, are) =
    let values = written (flagged s.memory.pending flags) s.memory.persisted in
    let same : fall_at s.memory.pending places ≡ fall_by s.memory.pending flags =
    ap (λ (xs : List Step). xs ++ Crash ∷ []) (ap (map (λ place. step_for (slice_index_or s.memory.pending place (Marker 0)))) are ∙ by_places s.memory.pending [] s.memory.pending 0 flags refl refl least.pending) in (
      values,
      least.leaving.leaves,
      (closed_law s.memory values).1 (flags, least.leaving.closed, refl),
      subst (IsFall s values) (sym same) (closed_set_falls s flags (lines_within s sound.within) room (none_is_left s.memory.pending flags least.leaving.closed)),
    )
