-- Markers behind which nothing is pending.
use Rattle.std.proofs.Common.{◌≡◌, ◌↔◌, Bool, true, false, List, [], ◌∷◌, ◌++◌, refl, ap, sym, subst, ◌∙◌, true≢false, ℕ}
use Rattle.std.specs.List.{list_all}
use Rattle.persist_buffer.specs.declared.entry.PendingEntry.{PendingEntry}
use Rattle.persist_buffer.specs.declared.entry.PendingEntry.TheVariants.{Write, Marker}
use Rattle.persist_buffer.specs.Memories.{is_marker, with_pending}
use Rattle.persist_buffer.specs.State.{Memory}
use Rattle.pending_images.specs.Changes.{IsReached}
use Rattle.pending_images.specs.ClosedSets.{IsLeftByClosedSet, flagged}
use Rattle.pending_images.specs.Cuts.{after, written}
use Rattle.pending_images.proofs.ClosedSetsByEntry.{NoneIsLeft, NoneWaits, closed_of, none_is_left}
use Rattle.pending_images.proofs.ImagesAreCuts.{closed_law}

-- ---- those of the front alone

front_waits : (e : PendingEntry) (front markers : List PendingEntry) (flags : List Bool) → NoneWaits e (front ++ markers) flags → NoneWaits e front flags
front_waits e [] markers flags h = tt
front_waits e (f ∷ front) markers [] h = tt
front_waits e (f ∷ front) markers (true ∷ flags) h = (h.0, front_waits e front markers flags h.1)
front_waits e (f ∷ front) markers (false ∷ flags) h = front_waits e front markers flags h

front_left : (front markers : List PendingEntry) (flags : List Bool) → NoneIsLeft (front ++ markers) flags → NoneIsLeft front flags
front_left [] markers flags h = tt
front_left (e ∷ front) markers [] h = tt
front_left (e ∷ front) markers (true ∷ flags) h = front_left front markers flags h
front_left (e ∷ front) markers (false ∷ flags) h = (front_waits e front markers flags h.0, front_left front markers flags h.1)

-- ---- the same places, and none behind them

abbrev within : List PendingEntry → List Bool → List Bool
within [] flags = []
within (e ∷ front) [] = []
within (e ∷ front) (flag ∷ flags) = flag ∷ within front flags

no_flag_waits : (e : PendingEntry) (es : List PendingEntry) → NoneWaits e es []
no_flag_waits e [] = tt
no_flag_waits e (f ∷ fs) = tt

no_flag_left : (es : List PendingEntry) → NoneIsLeft es []
no_flag_left [] = tt
no_flag_left (e ∷ es) = tt

whole_waits : (e : PendingEntry) (front markers : List PendingEntry) (flags : List Bool) → NoneWaits e front flags → NoneWaits e (front ++ markers) (within front flags)
whole_waits e [] markers flags h = no_flag_waits e markers
whole_waits e (f ∷ front) markers [] h = tt
whole_waits e (f ∷ front) markers (true ∷ flags) h = (h.0, whole_waits e front markers flags h.1)
whole_waits e (f ∷ front) markers (false ∷ flags) h = whole_waits e front markers flags h

whole_left : (front markers : List PendingEntry) (flags : List Bool) → NoneIsLeft front flags → NoneIsLeft (front ++ markers) (within front flags)
whole_left [] markers flags h = no_flag_left markers
whole_left (e ∷ front) markers [] h = tt
whole_left (e ∷ front) markers (true ∷ flags) h = whole_left front markers flags h
whole_left (e ∷ front) markers (false ∷ flags) h = (whole_waits e front markers flags h.0, whole_left front markers flags h.1)

-- ---- markers write nothing

nothing_written : (markers : List PendingEntry) (flags : List Bool) (values : List ℕ) → list_all is_marker markers ≡ true → written (flagged markers flags) values ≡ values
nothing_written [] flags values h = refl
nothing_written (e ∷ es) [] values h = refl
nothing_written (Write word value ∷ es) (flag ∷ flags) values h = absurd (true≢false (sym h))
nothing_written (Marker line ∷ es) (true ∷ flags) values h = nothing_written es flags values h
nothing_written (Marker line ∷ es) (false ∷ flags) values h = nothing_written es flags values h

front_written : (front markers : List PendingEntry) (flags : List Bool) (values : List ℕ) → list_all is_marker markers ≡ true
    → written (flagged (front ++ markers) flags) values ≡ written (flagged front flags) values
front_written [] markers flags values h = nothing_written markers flags values h
front_written (e ∷ front) markers [] values h = refl
front_written (e ∷ front) markers (true ∷ flags) values h = front_written front markers flags (after e values) h
front_written (e ∷ front) markers (false ∷ flags) values h = front_written front markers flags values h

within_written : (front : List PendingEntry) (flags : List Bool) → flagged front (within front flags) ≡ flagged front flags
within_written [] flags = refl
within_written (e ∷ front) [] = refl
within_written (e ∷ front) (true ∷ flags) = ap (λ (es : List PendingEntry). e ∷ es) (within_written front flags)
within_written (e ∷ front) (false ∷ flags) = within_written front flags

-- ---- closed sets

front_set : (front markers : List PendingEntry) (old persisted : List ℕ) → list_all is_marker markers ≡ true
    → IsLeftByClosedSet (record { pending = front ++ markers; persisted = old }) persisted → IsLeftByClosedSet (record { pending = front; persisted = old }) persisted
front_set front markers old persisted h (flags, closed, is) = (
  flags,
  closed_of front flags (front_left front markers flags (none_is_left (front ++ markers) flags closed)),
  is ∙ front_written front markers flags old h,
)

whole_set : (front markers : List PendingEntry) (old persisted : List ℕ) → list_all is_marker markers ≡ true
    → IsLeftByClosedSet (record { pending = front; persisted = old }) persisted → IsLeftByClosedSet (record { pending = front ++ markers; persisted = old }) persisted
whole_set front markers old persisted h (flags, closed, is) = (
  within front flags,
  closed_of (front ++ markers) (within front flags) (whole_left front markers flags (none_is_left front flags closed)),
  is ∙ ap (λ (es : List PendingEntry). written es old) (sym (within_written front flags)) ∙ sym (front_written front markers (within front flags) old h),
)

pub behind_law : (m : Memory) (front markers : List PendingEntry) (persisted : List ℕ) → m.pending ≡ front ++ markers → list_all is_marker markers ≡ true
    → IsReached m persisted ↔ IsReached (with_pending m front) persisted
behind_law m front markers persisted is h =
    let whole : Memory = record { pending = front ++ markers; persisted = m.persisted } in
    let same : m ≡ whole = ap (λ (es : List PendingEntry). with_pending m es) is in (
      (λ r. (closed_law (with_pending m front) persisted).1 (front_set front markers m.persisted persisted h (subst (λ (n : Memory). IsLeftByClosedSet n persisted) same ((closed_law m persisted).0 r)))),
      (λ r. (closed_law m persisted).1 (subst (λ (n : Memory). IsLeftByClosedSet n persisted) (sym same) (whole_set front markers m.persisted persisted h ((closed_law (with_pending m front) persisted).0 r)))),
    )
