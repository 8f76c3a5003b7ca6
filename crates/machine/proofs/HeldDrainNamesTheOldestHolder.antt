-- A drain that is refused as held names the oldest holder.
use Rattle.std.proofs.Common.{◌≡◌, ℕ, Option, Some, None, Result, Ok, Err, List, refl, sym, ◌∙◌, ap, inl, inr}
use Rattle.std.specs.Prelude.{nat_le, slice_get}
use Rattle.std.proofs.lemmas.Bool.{cases_Bool}
use Rattle.outcomes.specs.Outcomes.{◌>>=◌, refused_as}
use Rattle.store_buffer.specs.declared.entry.Entry.{Entry}
use Rattle.store_buffer.specs.declared.fault.BufferFault.{BufferFault}
use Rattle.store_buffer.specs.declared.fault.BufferFault.TheVariants as buffers
use Rattle.store_buffer.specs.Buffers.{take_of}
use Rattle.store_buffer.specs.Splits.{IsOldestHolder}
use Rattle.store_buffer.proofs.TakingIsASplit.{held_taking}
use Rattle.persist_buffer.specs.declared.fault.PendingFault.{PendingFault}
use Rattle.persist_buffer.specs.declared.fault.PendingFault.TheVariants as pendings
use Rattle.persist_buffer.specs.State.{Memory}
use Rattle.machine.specs.declared.step.Step.TheVariants.{Drain}
use Rattle.machine.specs.declared.step.Seen.{Seen}
use Rattle.machine.specs.declared.refusal.Refusal.{Refusal}
use Rattle.machine.specs.declared.refusal.Refusal.TheVariants.{Spent, Held}
use Rattle.machine.specs.Limits.{max_turns}
use Rattle.machine.specs.State.{Processor, State}
use Rattle.machine.specs.Refusals.{of_buffer, of_pending}
use Rattle.machine.specs.Processors.{receive_of, drain_of}
use Rattle.machine.specs.Steps.{step_of}
use Rattle.machine.proofs.ProcessorSteps.{drain_is, drain_found, drain_done}

abbrev Drained : Type 0
Drained = Result (Entry × (Processor × Memory)) Refusal

-- what a drain comes to, where the memory's answer is known
abbrev receive_with : Processor → Entry × List Entry → Result Memory PendingFault → Drained
receive_with c left received = refused_as of_pending received >>= λ after. Ok (left.0, (record c { buffer = left.1 }, after))

-- and where the store buffer's is
abbrev take_with : Processor → Memory → Result (Entry × List Entry) BufferFault → Drained
take_with c m left = refused_as of_buffer left >>= λ left. receive_with c left (receive_of m left.0)

-- the memory refuses nothing as held
not_by_memory : (c : Processor) (left : Entry × List Entry) (received : Result Memory PendingFault) (holder : ℕ) → receive_with c left received ≡ Err (Held holder) → ⊥
not_by_memory c left (Ok after) holder e = cc
not_by_memory c left (Err pendings.LineFull) holder e = cc
not_by_memory c left (Err pendings.MarkersFull) holder e = cc
not_by_memory c left (Err pendings.NoLine) holder e = cc
not_by_memory c left (Err pendings.NoPending) holder e = cc
not_by_memory c left (Err pendings.BehindMarker) holder e = cc
not_by_memory c left (Err pendings.NoMarker) holder e = cc
not_by_memory c left (Err pendings.MarkerWaits) holder e = cc

by_buffer : (c : Processor) (m : Memory) (left : Result (Entry × List Entry) BufferFault) (holder : ℕ) → take_with c m left ≡ Err (Held holder) → left ≡ Err (buffers.Held holder)
by_buffer c m (Ok left) holder e = absurd (not_by_memory c left (receive_of m left.0) holder e)
by_buffer c m (Err buffers.Full) holder e = absurd (cc)
by_buffer c m (Err buffers.NoEntry) holder e = absurd (cc)
by_buffer c m (Err (buffers.Held named)) holder e =
    let same : named ≡ holder = cc in
    ap (λ (n : ℕ). Err (buffers.Held n)) same

by_drain : (s : State) (p i : ℕ) (r : Drained) (refusal : Refusal) → drain_done s p i r ≡ Err refusal → r ≡ Err refusal
by_drain s p i (Ok done) refusal e = absurd (cc)
by_drain s p i (Err found) refusal e =
    let same : found ≡ refusal = cc in
    ap (λ (x : Refusal). Err x) same

-- the processor, its entry and the holder
abbrev pub HeldThere : State → ℕ → ℕ → ℕ → Type 0
HeldThere s p i holder = (c : Processor) × (entry : Entry) × (slice_get s.processors p ≡ Some c) × (slice_get c.buffer i ≡ Some entry) × IsOldestHolder c.buffer i entry holder

held_at : (s : State) (p i holder : ℕ) (there : Option Processor) → slice_get s.processors p ≡ there → drain_found s p i there ≡ Err (Held holder) → HeldThere s p i holder
held_at s p i holder None is e = absurd (cc)
held_at s p i holder (Some c) is e =
    let drained = by_drain s p i (drain_of c s.memory i) (Held holder) e in
    let held = held_taking c.buffer i holder (by_buffer c s.memory (take_of c.buffer i) holder drained) in
    (c, held.0, is, held.1, held.2)

pub held_drain : (s : State) (p i holder : ℕ) → step_of s (Drain p i) ≡ Err (Held holder) → HeldThere s p i holder
held_drain s p i holder e =
    elim (cases_Bool (nat_le max_turns s.turns)) [
      | inl spent ↦ let refused : ◌≡◌ {A = Result (Seen × State) Refusal} (Err Spent) (Err (Held holder)) = rw spent at e in absurd (cc)
      | inr goes ↦ held_at s p i holder (slice_get s.processors p) refl (sym (drain_is s p i goes) ∙ e)
    ]
