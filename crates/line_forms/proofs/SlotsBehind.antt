-- What may be at a place, without repeats.
use Rattle.std.proofs.Common.{◌≡◌, ℕ, suc, zero, Bool, List, [], ◌∷◌, map, refl, ap, inl, inr}
use Rattle.std.specs.Prelude.{◌||◌}
use Rattle.std.specs.List.{dedup, dedup_from, list_any}
use Rattle.std.proofs.lemmas.Bool.{cases_Bool}
use Rattle.line_forms.specs.declared.slots.Slot.{Slot}
use Rattle.line_forms.specs.Slots.{same_spot, spot_of}
use Rattle.line_forms.specs.Misfits.{slot_at, spot_at}

-- what slots have at an index
pub at_read : (index : ℕ) (slots : List Slot) → spot_of (slot_at index slots) ≡ spot_at index (map spot_of slots)
at_read index [] = refl
at_read zero (slot ∷ slots) = refl
at_read (suc index) (slot ∷ slots) = at_read index slots

-- both slots are called the same
abbrev pub same_slot : Slot → Slot → Bool
same_slot a b = same_spot (spot_of a) (spot_of b)

once_from : (kept : Slot) (slots : List Slot) → map spot_of (dedup_from same_slot kept slots) ≡ dedup_from same_spot (spot_of kept) (map spot_of slots)
once_from kept [] = refl
once_from kept (slot ∷ slots) =
    elim (cases_Bool (same_spot (spot_of slot) (spot_of kept))) [
      | inl same ↦ rw same (once_from kept slots)
      | inr other ↦ rw other (ap (λ spots. spot_of kept ∷ spots) (once_from slot slots))
    ]

-- slots without repeats
pub once_read : (slots : List Slot) → map spot_of (dedup same_slot slots) ≡ dedup same_spot (map spot_of slots)
once_read [] = refl
once_read (slot ∷ slots) = once_from slot slots

-- a test of what a list is read as
pub any_read : {X Y : Type 0} (test : Y → Bool) (f : X → Y) (xs : List X) → list_any test (map f xs) ≡ list_any (λ x. test (f x)) xs
any_read test f [] = refl
any_read test f (x ∷ xs) = ap (λ others. test (f x) || others) (any_read test f xs)
