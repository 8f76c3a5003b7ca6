-- A program of few events never fills its store buffer or the pending list.
use Rattle.std.proofs.Common.{◌≡◌, ℕ, suc, ◌+◌, ◌<◌, ◌≤◌, inl, inr, true, List, [], ◌∷◌, ◌++◌, length, sym, ap, ◌∙◌, arith}
use Rattle.std.proofs.lemmas.List.{length-append}
use Rattle.std.proofs.lemmas.List.Sums.{count_by-le-length}
use Rattle.store_buffer.specs.declared.entry.Entry.{Entry}
use Rattle.store_buffer.specs.declared.entry.Entry.TheVariants as entries
use Rattle.store_buffer.specs.Buffers.{buffer_room}
use Rattle.persist_buffer.specs.declared.entry.PendingEntry.TheVariants.{Write, Marker}
use Rattle.persist_buffer.specs.Memories.{is_marker, is_write_on}
use Rattle.persist_buffer.specs.State.{Memory}
use Rattle.persist_buffer.proofs.PersistingIsASplit.{persisting_only, settling_only}
use Rattle.pending_images.specs.Changes.{Change, persists, settles}
use Rattle.machine.specs.declared.step.Seen.{Seen}
use Rattle.machine.specs.declared.step.Step.{Step}
use Rattle.machine.specs.Processors.{cpu_of, program_of}
use Rattle.machine.specs.State.{Processor, State}
use Rattle.explore.specs.Sound.{IsSound}
use Rattle.explore.specs.declared.event.Event.{Event}
use Rattle.explore.specs.Alone.{ends_alone, events_alone, values_seen}
use Rattle.explore.specs.OneProcessor.{IsAlone, LacksRoom, RunsOutOfRoom}
use Rattle.explore.specs.OneProcessor.LacksRoom.{buffer_full, line_full, markers_full}
use Rattle.explore.specs.StraightLine.{Configuration, Transition, pending_of}
use Rattle.explore.specs.StraightLine.Transition.{delays, waits, locks, drains, changes}
use Rattle.explore.proofs.Late.{leaves_of_take}
use Rattle.explore.proofs.MachineRuns.{IsStep, at, one_step}
use Rattle.explore.proofs.RunsAlone.{begins, runs_as_alone, runs_in}
use Rattle.explore.proofs.Shown.{Shows, events_of, shown_by}

-- how much is still to come, buffered or pending
abbrev size : Configuration → ℕ
size c = length c.events + (length c.buffer + length c.memory.pending)

split_length : {X : Type 0} (old new before later : List X) (x : X) → old ≡ before ++ x ∷ later → new ≡ before ++ later → length old ≡ suc (length new)
split_length old new before later x whole rest =
    let longer = ap length whole ∙ length-append before (x ∷ later) in
    let shorter = ap length rest ∙ length-append before later in
    omega (arith, longer, shorter)

one_pending : (entry : Entry) → length (pending_of entry) ≤ 1
one_pending (entries.Write word value) = omega arith
one_pending (entries.Flush line) = omega arith
one_pending (entries.FlushOpt line) = omega arith
one_pending entries.Sfence = omega arith

change_shrinks : (m n : Memory) → Change m n → length m.pending ≡ suc (length n.pending)
change_shrinks m n (persists line word value e) =
    let (before, later, split) = persisting_only line m n word value e in
    split_length m.pending n.pending before later (Write word value) split.whole split.rest
change_shrinks m n (settles line e) =
    let (before, later, split) = settling_only m n line e in
    split_length m.pending n.pending before later (Marker line) split.whole split.rest

shrinks : (old new : Configuration) → Transition old new → size new ≤ size old
shrinks old new (delays entry later doing is) =
    let was = ap length doing in
    let now = ap size is in
    let more = length-append old.buffer (entry ∷ []) in
    omega (arith, was, now, more)
shrinks old new (waits later doing empty is) =
    let was = ap length doing in
    let now = ap size is in
    omega (arith, was, now)
shrinks old new (locks word value later doing empty is) =
    let was = ap length doing in
    let now = ap size is in
    let more = length-append old.memory.pending (Write word value ∷ []) in
    omega (arith, was, now, more)
shrinks old new (drains i entry buffer taken is) =
    let left = leaves_of_take old.buffer buffer i entry taken in
    let fewer = split_length old.buffer buffer left.before left.later entry left.whole left.rest in
    let now = ap size is in
    let more = length-append old.memory.pending (pending_of entry) in
    let one = one_pending entry in
    omega (arith, fewer, now, more, one)
shrinks old new (changes memory change is) =
    let fewer = change_shrinks old.memory memory change in
    let now = ap size is in
    omega (arith, fewer, now)

-- the only processor after a run, and how much is buffered or pending then
record IsSmall (t : State) (d : Processor) (most : ℕ) : Type 0 where
  only : t.processors ≡ d ∷ []
  few : length d.buffer + length t.memory.pending ≤ most

step_small : (s t : State) (c : Processor) (seen : Seen) → (x : IsStep s t c seen)
    → length x.after.buffer + length t.memory.pending ≤ length (events_of seen) + (length c.buffer + length s.memory.pending)
step_small s t c seen x =
    let none = length-append (events_of seen) [] in
    elim (x.matches []) [
      | inl goes ↦ let h = shrinks (at (events_of seen ++ []) c.buffer s.memory) (at [] x.after.buffer t.memory) goes in omega (arith, none, h)
      | inr same ↦ let h = ap size same in omega (arith, none, h)
    ]

run_small : (steps : List Step) (s t : State) (c : Processor) (events : List Event) → s.processors ≡ c ∷ [] → Shows s steps events t
    → (d : Processor) × IsSmall t d (length events + (length c.buffer + length s.memory.pending))
run_small [] s t c events only (none, same) = (
  c,
  record {
    only = ap (λ (x : State). x.processors) same ∙ only;
    few = let memory = ap (λ (x : State). length x.memory.pending) same in omega (arith, memory);
  },
)
run_small (step ∷ steps) s t c events only (seen, mid, more, plain, e, all, shows) =
    let x = one_step s mid c step seen only plain e in
    let (d, rest) = run_small steps mid t x.after more x.only shows in
    let one = step_small s mid c seen x in
    let both = ap length all ∙ length-append (events_of seen) more in
    let few = rest.few in
    (d, record { only = rest.only; few = omega (arith, one, both, few) })

full_never : (b : List Entry) (m : Memory) → length b + length m.pending < buffer_room → LacksRoom b m → ⊥
full_never b m few (buffer_full h) = omega (arith, few, h)
full_never b m few (line_full line h) = let all = count_by-le-length (is_write_on line) m.pending in omega (arith, few, h, all)
full_never b m few (markers_full h) = let all = count_by-le-length is_marker m.pending in omega (arith, few, h, all)

pub never_full : (most : ℕ) (s : State) (c : Processor) → IsSound s → IsAlone s c → ends_alone most s c ≡ true → length (events_alone most s c) < buffer_room → RunsOutOfRoom s → ⊥
never_full most s c sound single ends few h =
    let (steps, events, shows) = shown_by s h.state h.reached in
    let (d, small) = run_small steps s h.state c events single.only shows in
    let did = runs_as_alone steps s h.state c events sound single.only shows in
    let all = begins most (runs_in steps) s.shape (program_of c) (cpu_of c) (values_seen s c) ends in
    let whole = ap length all.1 ∙ length-append (events_alone (runs_in steps) s c) all.0 in
    let shown = ap length did in
    let nothing_buffered = ap length single.buffer in
    let nothing_pending = ap length single.pending in
    let both : d ∷ [] ≡ h.processor ∷ [] = sym small.only ∙ h.only in
    let same : d ≡ h.processor = cc in
    let buffer = ap (λ (x : Processor). length x.buffer) same in
    let bound = small.few in
    full_never h.processor.buffer h.state.memory (omega (arith, bound, whole, shown, nothing_buffered, nothing_pending, buffer, few)) h.full
