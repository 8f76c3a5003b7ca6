-- Draining splits the store buffer.
use Rattle.std.proofs.Common.{◌≡◌, ℕ, ◌<◌, ◌≤◌, arith, Bool, true, false, Result, Ok, Err, List, [], ◌∷◌, ◌++◌, refl, sym, ◌∙◌, ap, subst}
use Rattle.std.specs.Prelude.{nat_le, count_by}
use Rattle.std.proofs.lemmas.Bool.Decides.{nat_tests}
use Rattle.lines_layout.specs.Lines.{line_of}
use Rattle.outcomes.specs.Outcomes.{◌>>=◌, refuse, refused_as}
use Rattle.outcomes.proofs.PartsOfOutcomes.{answer_of}
use Rattle.store_buffer.specs.declared.entry.Entry.{Entry}
use Rattle.store_buffer.specs.declared.entry.Entry.TheVariants as entries
use Rattle.store_buffer.specs.declared.fault.BufferFault.{BufferFault}
use Rattle.store_buffer.specs.Buffers.{take_of}
use Rattle.store_buffer.proofs.TakingIsASplit.{taking_only, taking_always}
use Rattle.persist_buffer.specs.declared.entry.PendingEntry.{PendingEntry}
use Rattle.persist_buffer.specs.declared.entry.PendingEntry.TheVariants.{Write, Marker}
use Rattle.persist_buffer.specs.declared.fault.PendingFault.{PendingFault}
use Rattle.persist_buffer.specs.declared.fault.PendingFault.TheVariants.{LineFull, MarkersFull}
use Rattle.persist_buffer.specs.Limits.{line_room, marker_room}
use Rattle.persist_buffer.specs.State.{Memory}
use Rattle.persist_buffer.specs.Memories.{is_write_on, is_marker, with_pending}
use Rattle.machine.specs.declared.refusal.Refusal.{Refusal}
use Rattle.machine.specs.State.{Processor}
use Rattle.machine.specs.Refusals.{of_buffer, of_pending}
use Rattle.machine.specs.Processors.{receive_of, drain_of}
use Rattle.machine.specs.StepRelations.{DrainSplit, Arrives}

abbrev Drained : Type 0
Drained = Entry × (Processor × Memory)

-- what draining comes to, where what leaves the store buffer and what the memory makes of it are known
abbrev drained : Processor → Result (Entry × List Entry) BufferFault → (Entry → Result Memory PendingFault) → Result Drained Refusal
drained c left after = refused_as of_buffer left >>= λ l. refused_as of_pending (after l.0) >>= λ n. Ok (l.0, (record c { buffer = l.1 }, n))

abbrev pub Draining : Processor → Processor → Memory → Memory → ℕ → Entry → Type 0
Draining c c' m m' i entry = (before : List Entry) × (later : List Entry) × DrainSplit i entry c c' before later × (receive_of m entry ≡ Ok m')

draining_done : (c c' : Processor) (m m' n : Memory) (i : ℕ) (entry : Entry) (left : Entry × List Entry) → take_of c.buffer i ≡ Ok left
    → receive_of m left.0 ≡ Ok n → ◌≡◌ {A = Result Drained Refusal} (Ok (left.0, (record c { buffer = left.1 }, n))) (Ok (entry, (c', m')))
    → Draining c c' m m' i entry
draining_done c c' m m' n i entry left is arrives e =
    let parts = answer_of left.0 entry (record c { buffer = left.1 }, n) (c', m') e in
    let after : c' ≡ record c { buffer = left.1 } = ap (λ (p : Processor × Memory). p.0) parts.1 in
    let memory : m' ≡ n = ap (λ (p : Processor × Memory). p.1) parts.1 in
    let split = taking_only c.buffer left.1 i left.0 is in
    subst (λ (x : Entry). Draining c c' m m' i x) (sym parts.0) (
      split.0,
      split.1,
      record {
        whole = split.2.whole;
        place = split.2.place;
        free = split.2.free;
        rest = after ∙ ap (λ (b : List Entry). record c { buffer = b }) split.2.rest;
      },
      arrives ∙ ap (λ (x : Memory). Ok x) (sym memory),
    )

draining_received : (c c' : Processor) (m m' : Memory) (i : ℕ) (entry : Entry) (left : Entry × List Entry) (r : Result Memory PendingFault)
    → take_of c.buffer i ≡ Ok left → receive_of m left.0 ≡ r → drained c (Ok left) (λ x. r) ≡ Ok (entry, (c', m')) → Draining c c' m m' i entry
draining_received c c' m m' i entry left (Ok n) is arrives e = draining_done c c' m m' n i entry left is arrives e
draining_received c c' m m' i entry left (Err fault) is arrives e = absurd (cc)

draining_taken : (c c' : Processor) (m m' : Memory) (i : ℕ) (entry : Entry) (r : Result (Entry × List Entry) BufferFault)
    → take_of c.buffer i ≡ r → drained c r (receive_of m) ≡ Ok (entry, (c', m')) → Draining c c' m m' i entry
draining_taken c c' m m' i entry (Ok left) is e = draining_received c c' m m' i entry left (receive_of m left.0) is refl e
draining_taken c c' m m' i entry (Err fault) is e = absurd (cc)

pub draining_only : (c c' : Processor) (m m' : Memory) (i : ℕ) (entry : Entry) → drain_of c m i ≡ Ok (entry, (c', m')) → Draining c c' m m' i entry
draining_only c c' m m' i entry e = draining_taken c c' m m' i entry (take_of c.buffer i) refl e

pub draining_always : (c c' : Processor) (m m' : Memory) (i : ℕ) (entry : Entry) (before later : List Entry) → DrainSplit i entry c c' before later
    → receive_of m entry ≡ Ok m' → drain_of c m i ≡ Ok (entry, (c', m'))
draining_always c c' m m' i entry before later s arrives =
    let left : take_of c.buffer i ≡ Ok (entry, before ++ later) =
    taking_always c.buffer (before ++ later) i entry before later (record { whole = s.whole; place = s.place; free = s.free; rest = refl }) in
    ap (λ (r : Result (Entry × List Entry) BufferFault). drained c r (receive_of m)) left
    ∙ ap (λ (r : Result Memory PendingFault). drained c (Ok (entry, before ++ later)) (λ x. r)) arrives
    ∙ ap (λ (p : Processor). Ok (entry, (p, m'))) (sym s.rest)

added : (room : PendingFault) (full : Bool) (m m' : Memory) (entry : PendingEntry)
    → (refuse room full >>= λ free. Ok (with_pending m (m.pending ++ entry ∷ []))) ≡ Ok m' → Arrives m m' (entry ∷ [])
added room true m m' entry e = absurd (cc)
added room false m m' entry e =
    let after : m' ≡ with_pending m (m.pending ++ entry ∷ []) = cc in
    record { pending = ap (λ (n : Memory). n.pending) after; persisted = ap (λ (n : Memory). n.persisted) after }

pub write_arrives : (m m' : Memory) (word value : ℕ) → receive_of m (entries.Write word value) ≡ Ok m' → Arrives m m' (Write word value ∷ [])
write_arrives m m' word value e = added LineFull (nat_le line_room (count_by (is_write_on (line_of word)) m.pending)) m m' (Write word value) e

pub flush_arrives : (m m' : Memory) (line : ℕ) → receive_of m (entries.Flush line) ≡ Ok m' → Arrives m m' (Marker line ∷ [])
flush_arrives m m' line e = added MarkersFull (nat_le marker_room (count_by is_marker m.pending)) m m' (Marker line) e

pub optimized_flush_arrives : (m m' : Memory) (line : ℕ) → receive_of m (entries.FlushOpt line) ≡ Ok m' → Arrives m m' (Marker line ∷ [])
optimized_flush_arrives m m' line e = added MarkersFull (nat_le marker_room (count_by is_marker m.pending)) m m' (Marker line) e

pub fence_disappears : (m m' : Memory) → receive_of m entries.Sfence ≡ Ok m' → m' ≡ m
fence_disappears m m' e = cc

-- what is received where there is room
room_left : (n room : ℕ) → n < room → nat_le room n ≡ false
room_left n room h = grind (arith, nat_tests)

no_room : (n room : ℕ) → room ≤ n → nat_le room n ≡ true
no_room n room h = grind (arith, nat_tests)

abbrev pub IsReceived : Memory → Entry → Type 0
IsReceived m entry = (n : Memory) × (receive_of m entry ≡ Ok n)

pub write_has_room : (m : Memory) (word value : ℕ) → count_by (is_write_on (line_of word)) m.pending < line_room → IsReceived m (entries.Write word value)
write_has_room m word value h = (with_pending m (m.pending ++ Write word value ∷ []), rw (room_left (count_by (is_write_on (line_of word)) m.pending) line_room h) refl)

pub write_has_no_room : (m : Memory) (word value : ℕ) → line_room ≤ count_by (is_write_on (line_of word)) m.pending → receive_of m (entries.Write word value) ≡ Err LineFull
write_has_no_room m word value h = rw (no_room (count_by (is_write_on (line_of word)) m.pending) line_room h) refl

pub flush_has_room : (m : Memory) (line : ℕ) → count_by is_marker m.pending < marker_room → IsReceived m (entries.Flush line)
flush_has_room m line h = (with_pending m (m.pending ++ Marker line ∷ []), rw (room_left (count_by is_marker m.pending) marker_room h) refl)

pub flush_has_no_room : (m : Memory) (line : ℕ) → marker_room ≤ count_by is_marker m.pending → receive_of m (entries.Flush line) ≡ Err MarkersFull
flush_has_no_room m line h = rw (no_room (count_by is_marker m.pending) marker_room h) refl

pub optimized_flush_is_a_flush : (m : Memory) (line : ℕ) → receive_of m (entries.FlushOpt line) ≡ receive_of m (entries.Flush line)
optimized_flush_is_a_flush m line = refl

pub fence_is_received : (m : Memory) → receive_of m entries.Sfence ≡ Ok m
fence_is_received m = refl
