-- Each write that is left out of the least closed set that leaves an image, or still buffered, is said to be missing in it.
use Rattle.std.proofs.Common.{◌≡◌, ℕ, zero, suc, ◌+◌, ◌<◌, Bool, true, false, Option, Some, None, List, [], ◌∷◌, length, drop, refl, sym, ap, subst, ◌∙◌, eqb-true, arith, inl, inr}
use Rattle.std.specs.Prelude.{◌≢◌, ◌⊎◌, ◌||◌, Contains, nat_eq, slice_get}
use Rattle.std.specs.List.{list_any, range_with_len}
use Rattle.std.proofs.lemmas.Bool.{cases_Bool}
use Rattle.std.proofs.lemmas.List.Elements.{Contains-append_left, Contains-append_right}
use Rattle.std.proofs.lemmas.Option.{slice_get_within}
use Rattle.lines_layout.specs.Lines.{max_lines, max_words}
use Rattle.lines_layout.specs.Shapes.{IsShape}
use Rattle.isa.specs.Objects.{Object}
use Rattle.store_buffer.specs.declared.entry.Entry.{Entry}
use Rattle.store_buffer.specs.declared.entry.Entry.TheVariants as entries
use Rattle.persist_buffer.specs.declared.entry.PendingEntry.{PendingEntry}
use Rattle.persist_buffer.specs.declared.entry.PendingEntry.TheVariants.{Write}
use Rattle.persist_buffer.specs.Listings.{LinesBelow}
use Rattle.pending_images.specs.ClosedSets.{HoldsPlace}
use Rattle.pending_images.specs.Images.{value_of}
use Rattle.pending_images.specs.LeastCuts.{closed_set_of}
use Rattle.pending_images.specs.LeastSets.{IsLeast, IsLeastSet, places_from}
use Rattle.pending_images.proofs.LeastSetsAreFound.{is_least_set}
use Rattle.machine.specs.declared.step.Step.{Step}
use Rattle.machine.specs.Objects.{opening}
use Rattle.machine.specs.State.{State, buffer_at}
use Rattle.machine.specs.Steps.{End, run_of}
use Rattle.image_reasons.specs.declared.entries.Pended.{Pended}
use Rattle.image_reasons.specs.declared.missing.Missing.{Missing}
use Rattle.image_reasons.specs.Lost.{AreAllTold, IsAmong, IsLeftOut}
use Rattle.image_reasons.specs.Origins.{AreOrigins, Origins, origins_of}
use Rattle.image_reasons.specs.Reasons.{Stores, holds, is_missing, is_value, missing_after, missing_at, missing_buffered, missing_buffered_write, missing_delayed, missing_entry, missing_of, missing_own, missing_pending, missing_place, missing_write, missing_writes, stores_of}
use Rattle.image_reasons.proofs.EntriesAreThere.{delayed_kept, entries_are_there, entry_kept}
use Rattle.image_reasons.proofs.ListMembers.{in_range, into_filter, into_flat}
use Rattle.image_reasons.proofs.MissingOneByOne.{IsBySet, by_set}

is_other : (value : ℕ) (there : Option ℕ) → there ≢ Some value → is_value value there ≡ false
is_other value None other = refl
is_other value (Some v) other =
    elim (cases_Bool (is_value value (Some v))) [
      | inl is ↦ absurd (other (ap (λ (n : ℕ). Some n) (eqb-true v value is)))
      | inr is ↦ is
    ]

-- ---- places of a set

either_true : (a b : Bool) → (a || b) ≡ true → (a ≡ true) ⊎ (b ≡ true)
either_true true b e = inl refl
either_true false b e = inr e

-- no place is before that of the first flag
none_before : (flags : List Bool) (k n : ℕ) → n < k → list_any (nat_eq n) (places_from k flags) ≡ true → ⊥
none_before [] k n less e = absurd cc
none_before (true ∷ flags) k n less e =
    elim (either_true (nat_eq n k) (list_any (nat_eq n) (places_from (k + 1) flags)) e) [
      | inl here ↦ let same = eqb-true n k here in absurd (omega (arith, less, same))
      | inr later ↦ none_before flags (k + 1) n (omega (arith, less)) later
    ]
none_before (false ∷ flags) k n less e = none_before flags (k + 1) n (omega (arith, less)) e

place_held : (flags : List Bool) (k i n : ℕ) → k + i ≡ n → list_any (nat_eq n) (places_from k flags) ≡ true → HoldsPlace flags i
place_held [] k i n e held = absurd cc
place_held (true ∷ flags) k zero n e held = refl
place_held (true ∷ flags) k (suc i) n e held =
    elim (either_true (nat_eq n k) (list_any (nat_eq n) (places_from (k + 1) flags)) held) [
      | inl here ↦ let same = eqb-true n k here in absurd (omega (arith, e, same))
      | inr later ↦ place_held flags (k + 1) i n (omega (arith, e)) later
    ]
place_held (false ∷ flags) k zero n e held = absurd (none_before flags (k + 1) n (omega (arith, e)) held)
place_held (false ∷ flags) k (suc i) n e held = place_held flags (k + 1) i n (omega (arith, e)) held

-- ---- what is told where the entries are those of a state, and the places are of the least closed set

module _ (o : Origins) (s : State) (image places : List ℕ) (set : List Bool) (kept : AreOrigins o s) (least : IsLeast s.shape s.memory image set) (are : places ≡ places_from 0 set) where
  abbrev stores : Stores
  stores = stores_of o places

  unheld : (i : ℕ) (entry : PendingEntry) → IsLeftOut s image i entry → holds places i ≡ false
  unheld i entry left =
      elim (cases_Bool (holds places i)) [
        | inl held ↦ absurd (left.out set least (place_held set 0 i i (omega arith) (sym (ap (λ (ps : List ℕ). holds ps i) are) ∙ held)))
        | inr none ↦ none
      ]

  -- what is told of a write at a place
  told_at : (i : ℕ) (p : Pended) (word value : ℕ) → slice_get o.pended i ≡ Some p → p.entry ≡ Write word value → is_missing s.shape image places i word value ≡ true
      → missing_place o stores s.shape image places i ≡ Some (missing_write o stores word value p.operation (drop (i + 1) o.pended))
  told_at i p word value at is missing =
      ap (λ (found : Option Pended). missing_of o stores s.shape image places i found) at
      ∙ (ap (λ (entry : PendingEntry). missing_at o stores s.shape image places i p.operation (drop (i + 1) o.pended) entry) is ∙ rw missing refl)

  pending_told : (i word value : ℕ) → IsLeftOut s image i (Write word value) → value_of s.shape image word ≢ Some value → IsAmong (missing_writes o s.shape image places) word value
  pending_told i word value left other =
      let (p, at, is) = entry_kept o s kept i (Write word value) left.there in
      let none = unheld i (Write word value) left in
      let differs = is_other value (value_of s.shape image word) other in
      let missing : is_missing s.shape image places i word value ≡ true = rw none (rw differs refl) in
      let w = missing_write o stores word value p.operation (drop (i + 1) o.pended) in
      let within : i < length o.pended = slice_get_within o.pended i p at in
      let among : Contains (missing_pending o stores s.shape image places) w =
      into_filter (missing_place o stores s.shape image places) (range_with_len 0 (length o.pended)) i w (in_range 0 (length o.pended) i i (omega arith) within) (told_at i p word value at is missing) in
      (w, Contains-append_left (missing_pending o stores s.shape image places) (missing_buffered o stores.kept s.shape image) w among, refl, refl)

  buffered_told : (p : ℕ) (buffer : List Entry) (word value : ℕ) → buffer_at s p ≡ Some buffer → Contains buffer (entries.Write word value) → value_of s.shape image word ≢ Some value
      → IsAmong (missing_writes o s.shape image places) word value
  buffered_told p buffer word value at written other =
      let (own, held, d, delayed, is) = delayed_kept o s kept p buffer (entries.Write word value) at written in
      let differs = is_other value (value_of s.shape image word) other in
      let w : Missing = missing_buffered_write stores.kept word value d.operation in
      let told : missing_delayed stores.kept s.shape image d ≡ Some w = ap (λ (entry : Entry). missing_entry stores.kept s.shape image d.operation entry) is ∙ rw differs refl in
      let mine : Contains (missing_own stores.kept s.shape image own) w = into_filter (missing_delayed stores.kept s.shape image) own d w delayed told in
      let among : Contains (missing_buffered o stores.kept s.shape image) w = into_flat (missing_own stores.kept s.shape image) o.buffered p own w held mine in
      (w, Contains-append_right (missing_pending o stores s.shape image places) (missing_buffered o stores.kept s.shape image) w among, refl, refl)

  all_told : AreAllTold s image (missing_writes o s.shape image places)
  all_told = record { pending = pending_told; buffered = buffered_told }

-- ---- after steps

told_by_set : (o : Origins) (end : End) (image : List ℕ) (missing : List Missing) → AreOrigins o end.state
    → IsLeastSet end.state.shape end.state.memory image (closed_set_of end.state.shape end.state.memory image) → IsBySet o end image missing → AreAllTold end.state image missing
told_by_set o end image missing kept least by =
    let (set, is_least, are) : IsLeastSet end.state.shape end.state.memory image (Some by.places) = subst (λ (found : Option (List ℕ)). IsLeastSet end.state.shape end.state.memory image found) by.set least in
    subst (λ (ms : List Missing). AreAllTold end.state image ms) by.is (all_told o end.state image by.places set kept is_least are)

pub missing_writes_are_all : (object : Object) (steps : List Step) (image : List ℕ) (missing : List Missing) → IsShape (run_of steps (opening object)).state.shape
    → LinesBelow max_lines (run_of steps (opening object)).state.memory.pending → length (run_of steps (opening object)).state.memory.persisted ≡ max_words
    → missing_after object steps image ≡ Some missing → AreAllTold (run_of steps (opening object)).state image missing
missing_writes_are_all object steps image missing is_shape below size e =
    let end = run_of steps (opening object) in
    let o = origins_of object steps in
    told_by_set o end image missing (entries_are_there object steps) (is_least_set end.state.shape image end.state.memory is_shape below size) (by_set o end image missing e)
