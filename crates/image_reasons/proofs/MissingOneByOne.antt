-- What each write is that is said to be missing: a pending one, or a buffered one.
use Rattle.std.proofs.Common.{◌≡◌, ℕ, ◌+◌, Bool, true, false, Option, Some, None, List, length, drop, option_map, refl, ap, eqb-true, inl, inr}
use Rattle.std.specs.Prelude.{◌⊎◌, Contains, is_none, slice_get, if◌then◌else◌}
use Rattle.std.specs.List.{find, range_with_len}
use Rattle.std.proofs.lemmas.List.Elements.{Contains-append_cases}
use Rattle.store_buffer.specs.declared.entry.Entry.{Entry}
use Rattle.store_buffer.specs.declared.entry.Entry.TheVariants as entries
use Rattle.persist_buffer.specs.declared.entry.PendingEntry.{PendingEntry}
use Rattle.persist_buffer.specs.declared.entry.PendingEntry.TheVariants.{Write, Marker}
use Rattle.pending_images.specs.Images.{value_of}
use Rattle.pending_images.specs.LeastCuts.{closed_set_of}
use Rattle.machine.specs.Steps.{End}
use Rattle.image_reasons.specs.declared.entries.Delayed.{Delayed}
use Rattle.image_reasons.specs.declared.entries.Pended.{Pended}
use Rattle.image_reasons.specs.declared.entries.Site.{Site}
use Rattle.image_reasons.specs.declared.missing.Missing.{Missing}
use Rattle.image_reasons.specs.Origins.{Origins}
use Rattle.image_reasons.specs.Reasons.{Stores, is_marker_of, is_missing, is_value, marker_among, missing_at, missing_at_end, missing_buffered, missing_buffered_write, missing_delayed, missing_entry, missing_of, missing_own, missing_pending, missing_place, missing_write, missing_writes, stores_of}
use Rattle.image_reasons.proofs.ListMembers.{found_at, from_filter, from_flat}

given : {A : Type 0} (b : Bool) (x w : A) → (if b then Some x else None) ≡ Some w → (b ≡ true) × (x ≡ w)
given true x w e = (refl, cc)
given false x w e = absurd cc

not_given : {A : Type 0} (b : Bool) (x w : A) → (if b then None else Some x) ≡ Some w → (b ≡ false) × (x ≡ w)
not_given true x w e = absurd cc
not_given false x w e = (refl, cc)

-- ---- reasons

abbrev pub site_of : Option Pended → Option Site
site_of found = option_map (λ (p : Pended). p.operation.site) found

pub found_site : (found : Option Pended) (site : Site) → site_of found ≡ Some site → (p : Pended) × (found ≡ Some p) × (p.operation.site ≡ site)
found_site None site e = absurd cc
found_site (Some p) site e = (p, refl, cc)

marker_of : (line : ℕ) (entry : PendingEntry) → is_marker_of line entry ≡ true → entry ≡ Marker line
marker_of line (Marker other) e = ap (λ (g : ℕ). Marker g) (eqb-true other line e)
marker_of line (Write word value) e = absurd cc

-- the first marker of a line among pending entries
pub record IsFirstMarker (line : ℕ) (pended : List Pended) (site : Site) : Type 0 where
  pub place : ℕ
  pub marker : Pended
  pub at : slice_get pended place ≡ Some marker
  pub entry : marker.entry ≡ Marker line
  pub site_is : marker.operation.site ≡ site

pub first_marker : (line : ℕ) (pended : List Pended) (site : Site) → marker_among line pended ≡ Some site → IsFirstMarker line pended site
first_marker line pended site e =
    let (p, found, is) = found_site (find (λ (q : Pended). is_marker_of line q.entry) pended) site e in
    let (i, at, passes) = found_at (λ (q : Pended). is_marker_of line q.entry) pended p found in
    record { place = i; marker = p; at = at; entry = marker_of line p.entry passes; site_is = is }

-- ---- pending writes

pub record IsPendingOne (o : Origins) (shape image places : List ℕ) (w : Missing) : Type 0 where
  pub place : ℕ
  pub pended : Pended
  pub word : ℕ
  pub value : ℕ
  pub at : slice_get o.pended place ≡ Some pended
  pub entry : pended.entry ≡ Write word value
  pub missing : is_missing shape image places place word value ≡ true
  pub is : missing_write o (stores_of o places) word value pended.operation (drop (place + 1) o.pended) ≡ w

pub record IsBufferedOne (o : Origins) (shape image places : List ℕ) (w : Missing) : Type 0 where
  pub processor : ℕ
  pub own : List Delayed
  pub delayed : Delayed
  pub word : ℕ
  pub value : ℕ
  pub at : slice_get o.buffered processor ≡ Some own
  pub held : Contains own delayed
  pub entry : delayed.entry ≡ entries.Write word value
  pub other : is_value value (value_of shape image word) ≡ false
  pub is : missing_buffered_write (stores_of o places).kept word value delayed.operation ≡ w

module _ (o : Origins) (shape image places : List ℕ) (w : Missing) where
  abbrev stores : Stores
  stores = stores_of o places

  entry_one : (i : ℕ) (p : Pended) (entry : PendingEntry) → slice_get o.pended i ≡ Some p → p.entry ≡ entry → missing_at o stores shape image places i p.operation (drop (i + 1) o.pended) entry ≡ Some w
      → IsPendingOne o shape image places w
  entry_one i p (Marker line) at is e = absurd cc
  entry_one i p (Write word value) at is e =
      let (missing, same) = given (is_missing shape image places i word value) (missing_write o stores word value p.operation (drop (i + 1) o.pended)) w e in
      record { place = i; pended = p; word = word; value = value; at = at; entry = is; missing = missing; is = same }

  place_one : (i : ℕ) (found : Option Pended) → slice_get o.pended i ≡ found → missing_of o stores shape image places i found ≡ Some w → IsPendingOne o shape image places w
  place_one i None at e = absurd cc
  place_one i (Some p) at e = entry_one i p p.entry at refl e

  pending_one : Contains (missing_pending o stores shape image places) w → IsPendingOne o shape image places w
  pending_one among =
      let (i, within, e) = from_filter (missing_place o stores shape image places) (range_with_len 0 (length o.pended)) w among in
      place_one i (slice_get o.pended i) refl e

  delayed_one : (p : ℕ) (own : List Delayed) (d : Delayed) (entry : Entry) → slice_get o.buffered p ≡ Some own → Contains own d → d.entry ≡ entry → missing_entry stores.kept shape image d.operation entry ≡ Some w
      → IsBufferedOne o shape image places w
  delayed_one p own d (entries.Write word value) at held is e =
      let (other, same) = not_given (is_value value (value_of shape image word)) (missing_buffered_write stores.kept word value d.operation) w e in
      record { processor = p; own = own; delayed = d; word = word; value = value; at = at; held = held; entry = is; other = other; is = same }
  delayed_one p own d (entries.Flush line) at held is e = absurd cc
  delayed_one p own d (entries.FlushOpt line) at held is e = absurd cc
  delayed_one p own d entries.Sfence at held is e = absurd cc

  buffered_one : Contains (missing_buffered o stores.kept shape image) w → IsBufferedOne o shape image places w
  buffered_one among =
      let (p, own, at, mine) = from_flat (missing_own stores.kept shape image) o.buffered w among in
      let (d, held, e) = from_filter (missing_delayed stores.kept shape image) own w mine in
      delayed_one p own d d.entry at held refl e

  pub missing_one : Contains (missing_writes o shape image places) w → IsPendingOne o shape image places w ⊎ IsBufferedOne o shape image places w
  missing_one among =
      elim (Contains-append_cases (missing_pending o stores shape image places) (missing_buffered o stores.kept shape image) w among) [
        | inl pending ↦ inl (pending_one pending)
        | inr buffered ↦ inr (buffered_one buffered)
      ]

-- ---- after steps

pub record IsBySet (o : Origins) (end : End) (image : List ℕ) (missing : List Missing) : Type 0 where
  pub places : List ℕ
  pub set : closed_set_of end.state.shape end.state.memory image ≡ Some places
  pub is : missing_writes o end.state.shape image places ≡ missing

module _ (o : Origins) (end : End) (image : List ℕ) (missing : List Missing) where
  of_set : (found : Option (List ℕ)) → closed_set_of end.state.shape end.state.memory image ≡ found → option_map (missing_writes o end.state.shape image) found ≡ Some missing → IsBySet o end image missing
  of_set None set e = absurd cc
  of_set (Some places) set e = record { places = places; set = set; is = cc }

  at_end : (accepted : Bool) → is_none end.refusal ≡ accepted → missing_at_end o image end ≡ Some missing → IsBySet o end image missing
  at_end true is e = of_set (closed_set_of end.state.shape end.state.memory image) refl (rw is at e)
  at_end false is e = let bad : ◌≡◌ {A = Option (List Missing)} None (Some missing) = rw is at e in absurd cc

  pub by_set : missing_at_end o image end ≡ Some missing → IsBySet o end image missing
  by_set e = at_end (is_none end.refusal) refl e
