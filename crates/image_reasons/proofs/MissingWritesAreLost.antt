-- Each write that is said to be missing in an image is left out of the least closed set that leaves the image, or still buffered.
use Rattle.std.proofs.Common.{◌≡◌, ℕ, zero, suc, ◌+◌, ◌<◌, Bool, true, false, Option, Some, None, List, [], ◌∷◌, length, map, drop, unwrap_or, refl, sym, ap, subst, ◌∙◌, eq-eqb, arith, inl, inr}
use Rattle.std.specs.Prelude.{◌≢◌, ◌||◌, Contains, nat_eq, not, slice_get}
use Rattle.std.specs.List.{list_any}
use Rattle.std.proofs.lemmas.Bool.{or_parts, or_right}
use Rattle.lines_layout.specs.Lines.{line_of, max_lines, max_words}
use Rattle.lines_layout.specs.Shapes.{IsShape}
use Rattle.isa.specs.Objects.{Object}
use Rattle.store_buffer.specs.declared.entry.Entry.{Entry}
use Rattle.store_buffer.specs.declared.entry.Entry.TheVariants as entries
use Rattle.persist_buffer.specs.declared.entry.PendingEntry.{PendingEntry}
use Rattle.persist_buffer.specs.declared.entry.PendingEntry.TheVariants.{Write, Marker}
use Rattle.persist_buffer.specs.Listings.{LinesBelow}
use Rattle.pending_images.specs.ClosedSets.{HoldsPlace, leaves_first, line_named}
use Rattle.pending_images.specs.Images.{value_of}
use Rattle.pending_images.specs.LeastCuts.{closed_set_of}
use Rattle.pending_images.specs.LeastSets.{IsLeast, IsLeastSet, places_from}
use Rattle.pending_images.proofs.LeastSetsAreFound.{is_least_set}
use Rattle.machine.specs.declared.step.Step.{Step}
use Rattle.machine.specs.Objects.{opening}
use Rattle.machine.specs.State.{State}
use Rattle.machine.specs.Steps.{End, run_of}
use Rattle.image_reasons.specs.declared.entries.Delayed.{Delayed}
use Rattle.image_reasons.specs.declared.entries.Site.{Site}
use Rattle.image_reasons.specs.declared.missing.Missing.{Missing}
use Rattle.image_reasons.specs.declared.missing.Why.{Why}
use Rattle.image_reasons.specs.declared.missing.Why.TheVariants.{FlushPending}
use Rattle.image_reasons.specs.Lost.{AreLost, IsOfBuffer, IsLeftOut, IsLost, IsMarkerLeftOut}
use Rattle.image_reasons.specs.Origins.{AreOrigins, Origins, origins_of}
use Rattle.image_reasons.specs.Reasons.{Stores, holds, is_value, marker_among, missing_after, missing_buffered_write, missing_write, missing_writes, newest_flush, stores_of, why_delayed, why_flushed, why_later, why_missing, write_before}
use Rattle.image_reasons.proofs.EntriesAreThere.{own_there, entries_are_there, entry_there}
use Rattle.image_reasons.proofs.LaterFlushes.{IsToldLater, told_later}
use Rattle.image_reasons.proofs.ListMembers.{drop_get, in_map}
use Rattle.image_reasons.proofs.MissingOneByOne.{IsBufferedOne, IsBySet, IsPendingOne, by_set, first_marker, missing_one}

not_true : (b : Bool) → not b ≡ true → b ≡ false
not_true true e = absurd cc
not_true false e = refl

other_value : (value : ℕ) (there : Option ℕ) → is_value value there ≡ false → there ≢ Some value
other_value value there e = λ same. (
    let is : is_value value there ≡ true = ap (λ (o : Option ℕ). is_value value o) same ∙ eq-eqb value value refl in
    let bad : false ≡ true = sym e ∙ is in
    absurd cc
    )

-- ---- places of a set

held_place : (flags : List Bool) (k i n : ℕ) → k + i ≡ n → HoldsPlace flags i → list_any (nat_eq n) (places_from k flags) ≡ true
held_place [] k i n e h = absurd cc
held_place (true ∷ flags) k zero n e h = rw (eq-eqb n k (omega (arith, e))) refl
held_place (true ∷ flags) k (suc i) n e h = or_right (nat_eq n k) (list_any (nat_eq n) (places_from (k + 1) flags)) (held_place flags (k + 1) i n (omega (arith, e)) h)
held_place (false ∷ flags) k zero n e h = absurd cc
held_place (false ∷ flags) k (suc i) n e h = held_place flags (k + 1) i n (omega (arith, e)) h

-- ---- reasons

not_of_flushed : (newest : Option Site) (flush : Site) → why_flushed newest ≡ FlushPending flush → ⊥
not_of_flushed (Some f) flush e = absurd cc
not_of_flushed None flush e = absurd cc

not_of_later : (o : Origins) (stores : Stores) (line n : ℕ) (flush : Site) → IsToldLater o stores line n (FlushPending flush) → ⊥
not_of_later o stores line n flush told =
    elim told [
      | inl kept ↦ (let e = kept.is in absurd cc)
      | inr rest ↦ elim rest [
        | inl left ↦ (let e = left.is in absurd cc)
        | inr last ↦ elim last [
          | inl behind ↦ (let e = behind.is in absurd cc)
          | inr buffered ↦ (let e = buffered.is in absurd cc)
        ]
      ]
    ]

not_unmarked : (o : Origins) (stores : Stores) (line n : ℕ) (flush : Site) (later : Option Why) → why_later o stores line n ≡ later → unwrap_or later (why_flushed (newest_flush line o.flushed)) ≡ FlushPending flush → ⊥
not_unmarked o stores line n flush None at e = not_of_flushed (newest_flush line o.flushed) flush e
not_unmarked o stores line n flush (Some why) at e = not_of_later o stores line n flush (subst (λ (w : Why). IsToldLater o stores line n w) e (told_later o stores line n why at))

marker_given : (o : Origins) (stores : Stores) (line n : ℕ) (marker : Option Site) (flush : Site) → why_missing o stores line n marker ≡ FlushPending flush → marker ≡ Some flush
marker_given o stores line n (Some f) flush e = let same : f ≡ flush = cc in ap (λ (g : Site). Some g) same
marker_given o stores line n None flush e = absurd (not_unmarked o stores line n flush (why_later o stores line n) refl e)

-- a reason of what is buffered
of_buffer : (newest : Option Site) → IsOfBuffer (why_delayed newest)
of_buffer None = tt
of_buffer (Some store) = tt

-- ---- what is reported where the entries are those of a state, and the places are of the least closed set

module _ (o : Origins) (s : State) (image places : List ℕ) (set : List Bool) (kept : AreOrigins o s) (least : IsLeast s.shape s.memory image set) (are : places ≡ places_from 0 set) where
  left_out : (i : ℕ) (entry : PendingEntry) → slice_get s.memory.pending i ≡ Some entry → (HoldsPlace set i → ⊥) → IsLeftOut s image i entry
  left_out i entry there unheld = record { there = there; out = λ flags other held. unheld (other.least set i least.leaving held) }

  unheld : (i : ℕ) → holds places i ≡ false → HoldsPlace set i → ⊥
  unheld i none held =
      let is : holds places i ≡ true = ap (λ (ps : List ℕ). holds ps i) are ∙ held_place set 0 i i (omega arith) held in
      let bad : false ≡ true = sym none ∙ is in
      absurd cc

  -- a marker of its line behind a write that is not held
  marker_out : (i word value : ℕ) (flush : Site) → slice_get s.memory.pending i ≡ Some (Write word value) → (HoldsPlace set i → ⊥) → marker_among (line_of word) (drop (i + 1) o.pended) ≡ Some flush
      → IsMarkerLeftOut s image i (line_of word)
  marker_out i word value flush there out given_marker =
      let line = line_of word in
      let later = drop (i + 1) o.pended in
      let m = first_marker line later flush given_marker in
      let j = (i + 1) + m.place in
      let here : slice_get s.memory.pending j ≡ Some (Marker line) = entry_there o s kept j m.marker (sym (drop_get o.pended (i + 1) m.place j refl) ∙ m.at) ∙ ap (λ (e : PendingEntry). Some e) m.entry in
      let behind : i < j = omega arith in
      let first : leaves_first (line_named (Marker line)) (Write word value) ≡ true = eq-eqb line line refl in
      (j, behind, left_out j (Marker line) here (λ held. out (least.leaving.closed.whole i j (Write word value) (Marker line) behind there here first held)))

  pending_lost : (w : Missing) → IsPendingOne o s.shape image places w → IsLost s image w
  pending_lost w one =
      let i = one.place in
      let word = one.word in
      let value = one.value in
      let neither : (holds places i || is_value value (value_of s.shape image word)) ≡ false = not_true (holds places i || is_value value (value_of s.shape image word)) one.missing in
      let (none, other) = or_parts (holds places i) (is_value value (value_of s.shape image word)) neither in
      let there : slice_get s.memory.pending i ≡ Some (Write word value) = entry_there o s kept i one.pended one.at ∙ ap (λ (e : PendingEntry). Some e) one.entry in
      let out = unheld i none in
      let f = one.pended.operation in
      let later = drop (i + 1) o.pended in
      let stores = stores_of o places in
      let of_flush : (flush : Site) → why_missing o stores (line_of word) f.step (marker_among (line_of word) later) ≡ FlushPending flush → IsMarkerLeftOut s image i (line_of word) =
      λ flush why. marker_out i word value flush there out (marker_given o stores (line_of word) f.step (marker_among (line_of word) later) flush why) in
      let done : IsLost s image (missing_write o stores word value f later) =
      record { other = other_value value (value_of s.shape image word) other; lost = inl (i, record { write = left_out i (Write word value) there out; marker = of_flush }) } in
      subst (λ (x : Missing). IsLost s image x) one.is done

  buffered_lost : (w : Missing) → IsBufferedOne o s.shape image places w → IsLost s image w
  buffered_lost w one =
      let word = one.word in
      let value = one.value in
      let buffer = map (λ (x : Delayed). x.entry) one.own in
      let written : Contains buffer (entries.Write word value) = subst (λ (e : Entry). Contains buffer e) one.entry (in_map (λ (x : Delayed). x.entry) one.own one.delayed one.held) in
      let done : IsLost s image (missing_buffered_write (stores_of o places).kept word value one.delayed.operation) =
      record { other = other_value value (value_of s.shape image word) one.other; lost = inr (one.processor, buffer, record { buffered = own_there o s kept one.processor one.own one.at; write = written; why = of_buffer (write_before (stores_of o places).kept (line_of word) one.delayed.operation) }) } in
      subst (λ (x : Missing). IsLost s image x) one.is done

  all_lost : AreLost s image (missing_writes o s.shape image places)
  all_lost w among =
      elim (missing_one o s.shape image places w among) [
        | inl pending ↦ pending_lost w pending
        | inr buffered ↦ buffered_lost w buffered
      ]

-- ---- after steps

lost_by_set : (o : Origins) (end : End) (image : List ℕ) (missing : List Missing) → AreOrigins o end.state
    → IsLeastSet end.state.shape end.state.memory image (closed_set_of end.state.shape end.state.memory image) → IsBySet o end image missing → AreLost end.state image missing
lost_by_set o end image missing kept least by =
    let (set, is_least, are) : IsLeastSet end.state.shape end.state.memory image (Some by.places) = subst (λ (found : Option (List ℕ)). IsLeastSet end.state.shape end.state.memory image found) by.set least in
    subst (λ (ms : List Missing). AreLost end.state image ms) by.is (all_lost o end.state image by.places set kept is_least are)

pub missing_writes_are_lost : (object : Object) (steps : List Step) (image : List ℕ) (missing : List Missing) → IsShape (run_of steps (opening object)).state.shape
    → LinesBelow max_lines (run_of steps (opening object)).state.memory.pending → length (run_of steps (opening object)).state.memory.persisted ≡ max_words
    → missing_after object steps image ≡ Some missing → AreLost (run_of steps (opening object)).state image missing
missing_writes_are_lost object steps image missing is_shape below size e =
    let end = run_of steps (opening object) in
    let o = origins_of object steps in
    lost_by_set o end image missing (entries_are_there object steps) (is_least_set end.state.shape image end.state.memory is_shape below size) (by_set o end image missing e)
