-- An entry that leaves splits the store buffer.
use Rattle.std.proofs.Common.{◌≡◌, ℕ, suc, Option, Some, None, Result, Ok, Err, List, ◌∷◌, ◌++◌, take, drop, refl, sym, ◌∙◌, ap, subst}
use Rattle.std.specs.Prelude.{remove, slice_get}
use Rattle.std.proofs.Math.Seq.{take-append_seam}
use Rattle.outcomes.specs.Outcomes.{◌>>=◌, required, refuse_some}
use Rattle.outcomes.proofs.PartsOfOutcomes.{answer_of}
use Rattle.outcomes.proofs.ListsByPlace.{position_none, position_only_none, split_at, place_of, slice_get_seam, drop_past_seam}
use Rattle.store_buffer.specs.declared.entry.Entry.{Entry}
use Rattle.store_buffer.specs.declared.fault.BufferFault.{BufferFault}
use Rattle.store_buffer.specs.declared.fault.BufferFault.TheVariants.{NoEntry, Held}
use Rattle.store_buffer.specs.Buffers.{is_held_by, holder_of, take_of}
use Rattle.store_buffer.specs.Splits.{IsOldestHolder, TakeSplit}
use Rattle.store_buffer.proofs.NamedHolderIsTheOldest.{named_oldest}

-- what taking comes to, where the entry and its holder are known
abbrev take_with : List Entry → ℕ → Option Entry → (Entry → Option ℕ) → Result (Entry × List Entry) BufferFault
take_with buffer i there holder = (required NoEntry there >>= λ entry. refuse_some Held (holder entry) >>= λ free. Ok entry) >>= λ entry. Ok (entry, remove buffer i)

abbrev pub Taking : ℕ → Entry → List Entry → List Entry → Type 0
Taking i entry old new = (before : List Entry) × (later : List Entry) × TakeSplit i entry old new before later

taking_done : (old new : List Entry) (i : ℕ) (entry there : Entry) → slice_get old i ≡ Some there → holder_of old i there ≡ None
    → ◌≡◌ {A = Result (Entry × List Entry) BufferFault} (Ok (there, remove old i)) (Ok (entry, new)) → Taking i entry old new
taking_done old new i entry there at free e =
    let parts = answer_of there entry (remove old i) new e in
    subst (λ (x : Entry). Taking i x old new) (sym parts.0) (
      take i old,
      drop (suc i) old,
      record {
        whole = split_at old i there at;
        place = place_of old i there at;
        free = position_only_none (is_held_by there) (take i old) free;
        rest = parts.1;
      },
    )

taking_free : (old new : List Entry) (i : ℕ) (entry there : Entry) (holder : Option ℕ) → slice_get old i ≡ Some there → holder_of old i there ≡ holder
    → take_with old i (Some there) (λ x. holder) ≡ Ok (entry, new) → Taking i entry old new
taking_free old new i entry there None at free e = taking_done old new i entry there at free e
taking_free old new i entry there (Some holder) at held e = absurd (cc)

taking_found : (old new : List Entry) (i : ℕ) (entry : Entry) (there : Option Entry) → slice_get old i ≡ there
    → take_with old i there (holder_of old i) ≡ Ok (entry, new) → Taking i entry old new
taking_found old new i entry None at e = absurd (cc)
taking_found old new i entry (Some there) at e = taking_free old new i entry there (holder_of old i there) at refl e

pub taking_only : (old new : List Entry) (i : ℕ) (entry : Entry) → take_of old i ≡ Ok (entry, new) → Taking i entry old new
taking_only old new i entry e = taking_found old new i entry (slice_get old i) refl e

pub taking_always : (old new : List Entry) (i : ℕ) (entry : Entry) (before later : List Entry) → TakeSplit i entry old new before later → take_of old i ≡ Ok (entry, new)
taking_always old new i entry before later s =
    let there : slice_get old i ≡ Some entry = rw (s.whole, ← s.place) (slice_get_seam before later entry) in
    let front : take i old ≡ before = rw (s.whole, ← s.place) (take-append_seam before (entry ∷ later)) in
    let left : remove old i ≡ before ++ later = rw (front, s.whole, ← s.place, drop_past_seam before later entry) refl in
    let free : holder_of old i entry ≡ None = rw front (position_none (is_held_by entry) before s.free) in
    ap (λ (o : Option Entry). take_with old i o (holder_of old i)) there
    ∙ ap (λ (o : Option ℕ). take_with old i (Some entry) (λ x. o)) free
    ∙ ap (λ (b : List Entry). Ok (entry, b)) (left ∙ sym s.rest)

-- the holder that a refusal names
held_named : (buffer : List Entry) (i holder : ℕ) (entry : Entry) (found : Option ℕ) → holder_of buffer i entry ≡ found
    → take_with buffer i (Some entry) (λ x. found) ≡ Err (Held holder) → IsOldestHolder buffer i entry holder
held_named buffer i holder entry None is e = absurd (cc)
held_named buffer i holder entry (Some named) is e =
    let same : named ≡ holder = cc in
    named_oldest buffer i entry holder (is ∙ ap (λ (n : ℕ). Some n) same)

abbrev pub Holding : List Entry → ℕ → ℕ → Type 0
Holding buffer i holder = (entry : Entry) × (slice_get buffer i ≡ Some entry) × IsOldestHolder buffer i entry holder

held_found : (buffer : List Entry) (i holder : ℕ) (there : Option Entry) → slice_get buffer i ≡ there
    → take_with buffer i there (holder_of buffer i) ≡ Err (Held holder) → Holding buffer i holder
held_found buffer i holder None at e = absurd (cc)
held_found buffer i holder (Some entry) at e = (entry, at, held_named buffer i holder entry (holder_of buffer i entry) refl e)

pub held_taking : (buffer : List Entry) (i holder : ℕ) → take_of buffer i ≡ Err (Held holder) → Holding buffer i holder
held_taking buffer i holder e = held_found buffer i holder (slice_get buffer i) refl e
