-- Closed sets of the entries that stay, and closed sets of all.
use Rattle.std.proofs.Common.{◌≡◌, ◌↔◌, ℕ, ◌<◌, ◌==◌, ◌||◌, Bool, true, false, Some, None, List, [], ◌∷◌, length, length-set, get_or-set_same, get_or-set_other, refl, ap, sym, subst, ◌∙◌, arith, inl, inr, true≢false, eqb-true}
use Rattle.std.specs.Prelude.{if◌then◌else◌, filter, slice_index, slice_set}
use Rattle.std.proofs.lemmas.Bool.{cases_Bool, cases_lt}
use Rattle.std.proofs.lemmas.Bool.Decides.{eqb_tells}
use Rattle.std.proofs.lemmas.List.{set_past}
use Rattle.lines_layout.specs.Lines.{has_word, line_of}
use Rattle.persist_buffer.specs.declared.entry.PendingEntry.{PendingEntry}
use Rattle.persist_buffer.specs.declared.entry.PendingEntry.TheVariants.{Write, Marker}
use Rattle.persist_buffer.specs.State.{Memory}
use Rattle.pending_images.specs.Changes.{IsReached}
use Rattle.pending_images.specs.ClosedSets.{IsClosed, flagged, leaves_first, line_named}
use Rattle.pending_images.specs.Cuts.{after, written}
use Rattle.pending_images.specs.Images.{IsImage, image_at, value_of}
use Rattle.pending_images.specs.SomeLines.{AreAlikeAt, AreAlikeOn, AreOf, IsRest, memory_on, stays}
use Rattle.pending_images.specs.Values.{Agrees, AreValues}
use Rattle.pending_images.proofs.ClosedSetsByEntry.{NoneIsLeft, NoneWaits, closed_of, none_is_left}
use Rattle.pending_images.proofs.ImagesAreCuts.{closed_law}
use Rattle.pending_images.proofs.WordsInImages.{value_read}

-- ---- tests

or_left : (a b : Bool) → (a || b) ≡ false → a ≡ false
or_left true b h = absurd (true≢false h)
or_left false b h = refl

or_right : (a b : Bool) → (a || b) ≡ false → b ≡ false
or_right true b h = absurd (true≢false h)
or_right false b h = h

-- ---- an entry for which one with a true flag waits

abbrev waits : PendingEntry → List PendingEntry → List Bool → Bool
waits e [] flags = false
waits e (f ∷ fs) [] = false
waits e (f ∷ fs) (true ∷ flags) = leaves_first (line_named f) e || waits e fs flags
waits e (f ∷ fs) (false ∷ flags) = waits e fs flags

none_where : (e : PendingEntry) (es : List PendingEntry) (flags : List Bool) → waits e es flags ≡ false → NoneWaits e es flags
none_where e [] flags h = tt
none_where e (f ∷ fs) [] h = tt
none_where e (f ∷ fs) (true ∷ flags) h =
    (or_left (leaves_first (line_named f) e) (waits e fs flags) h, none_where e fs flags (or_right (leaves_first (line_named f) e) (waits e fs flags) h))
none_where e (f ∷ fs) (false ∷ flags) h = none_where e fs flags h

-- ---- writes, where two memories have the same value of a word

same_set : (xs ys : List ℕ) (word value seen : ℕ) → length xs ≡ length ys → slice_index xs seen ≡ slice_index ys seen → slice_index (slice_set xs word value) seen ≡ slice_index (slice_set ys word value) seen
same_set xs ys word value seen size same =
    elim (eqb_tells seen word) [
      | inl h ↦ elim (cases_lt word (length xs)) [
        | inl lt ↦
            let there : word < length ys = omega (arith, lt, size) in
            ap (λ (w : ℕ). slice_index (slice_set xs word value) w) h.1 ∙ get_or-set_same xs word value 0 lt ∙ sym (get_or-set_same ys word value 0 there) ∙ ap (λ (w : ℕ). slice_index (slice_set ys word value) w) (sym h.1)
        | inr past ↦
            ap (λ (zs : List ℕ). slice_index zs seen) (set_past xs word value past) ∙ same ∙ ap (λ (zs : List ℕ). slice_index zs seen) (sym (set_past ys word value (omega (arith, past, size))))
      ]
      | inr h ↦ get_or-set_other xs word seen value 0 h.1 ∙ same ∙ sym (get_or-set_other ys word seen value 0 h.1)
    ]

module _ (words lines : ℕ → Bool) where
  abbrev kept : List PendingEntry → List PendingEntry
  kept es = filter (stays words lines) es

  -- ---- from a set of all entries

  -- the flags of those that stay
  abbrev narrow : List PendingEntry → List Bool → List Bool
  narrow [] flags = []
  narrow (e ∷ es) [] = []
  narrow (e ∷ es) (flag ∷ flags) = if stays words lines e then flag ∷ narrow es flags else narrow es flags

  narrow_waits : (e : PendingEntry) (es : List PendingEntry) (flags : List Bool) → NoneWaits e es flags → NoneWaits e (kept es) (narrow es flags)
  narrow_waits e [] flags h = tt
  narrow_waits e (f ∷ fs) [] h = nothing e (kept (f ∷ fs))
    where
      nothing : (x : PendingEntry) (xs : List PendingEntry) → NoneWaits x xs []
      nothing x [] = tt
      nothing x (y ∷ ys) = tt
  narrow_waits e (f ∷ fs) (true ∷ flags) h =
      elim (cases_Bool (stays words lines f)) [
        | inl on ↦ rw on (h.0, narrow_waits e fs flags h.1)
        | inr off ↦ rw off (narrow_waits e fs flags h.1)
      ]
  narrow_waits e (f ∷ fs) (false ∷ flags) h =
      elim (cases_Bool (stays words lines f)) [
        | inl on ↦ rw on (narrow_waits e fs flags h)
        | inr off ↦ rw off (narrow_waits e fs flags h)
      ]

  narrow_left : (es : List PendingEntry) (flags : List Bool) → NoneIsLeft es flags → NoneIsLeft (kept es) (narrow es flags)
  narrow_left [] flags h = tt
  narrow_left (e ∷ es) [] h = nothing (kept (e ∷ es))
    where
      nothing : (xs : List PendingEntry) → NoneIsLeft xs []
      nothing [] = tt
      nothing (y ∷ ys) = tt
  narrow_left (e ∷ es) (true ∷ flags) h =
      elim (cases_Bool (stays words lines e)) [
        | inl on ↦ rw on (narrow_left es flags h)
        | inr off ↦ rw off (narrow_left es flags h)
      ]
  narrow_left (e ∷ es) (false ∷ flags) h =
      elim (cases_Bool (stays words lines e)) [
        | inl on ↦ rw on (narrow_waits e es flags h.0, narrow_left es flags h.1)
        | inr off ↦ rw off (narrow_left es flags h.1)
      ]

  -- ---- from a set of those that stay

  -- with the others for which one that is held waits
  abbrev wide : List PendingEntry → List Bool → List Bool
  wide [] flags = []
  wide (e ∷ es) [] = []
  wide (e ∷ es) (flag ∷ flags) = if stays words lines e then flag ∷ wide es flags else waits e es (wide es (flag ∷ flags)) ∷ wide es (flag ∷ flags)

  -- with a word the markers of its line stay
  abbrev Bound : Type 0
  Bound = (word : ℕ) → words word ≡ true → lines (line_of word) ≡ true

  -- What waits for one that is left out waits for no entry that stays, if what waits for it does not.
  free_of : Bound → (e f g : PendingEntry) → stays words lines e ≡ true → stays words lines f ≡ false
      → leaves_first (line_named g) f ≡ true → leaves_first (line_named g) e ≡ false → leaves_first (line_named f) e ≡ false
  free_of bound e (Write word value) g mine off first free =
      let line : line_of word ≡ line_named g = eqb-true (line_of word) (line_named g) first in
      subst (λ (l : ℕ). leaves_first l e ≡ false) (sym line) free
  free_of bound (Marker l) (Marker line) g mine off first free = absurd (true≢false free)
  free_of bound (Write word value) (Marker line) g mine off first free =
      elim (cases_Bool (line_of word == line)) [
        | inl same ↦ absurd (true≢false (sym (bound word mine) ∙ ap lines (eqb-true (line_of word) line same) ∙ off))
        | inr apart ↦ apart
      ]

  free_behind : Bound → (e f : PendingEntry) (es : List PendingEntry) (flags : List Bool) → stays words lines e ≡ true → stays words lines f ≡ false
      → waits f es flags ≡ true → NoneWaits e es flags → leaves_first (line_named f) e ≡ false
  free_behind bound e f [] flags mine off some h = absurd (true≢false (sym some))
  free_behind bound e f (g ∷ gs) [] mine off some h = absurd (true≢false (sym some))
  free_behind bound e f (g ∷ gs) (true ∷ flags) mine off some h =
      elim (cases_Bool (leaves_first (line_named g) f)) [
        | inl first ↦ free_of bound e f g mine off first h.0
        | inr not ↦ let later : waits f gs flags ≡ true = rw not at some in free_behind bound e f gs flags mine off later h.1
      ]
  free_behind bound e f (g ∷ gs) (false ∷ flags) mine off some h = free_behind bound e f gs flags mine off some h

  wide_waits : Bound → (e : PendingEntry) (es : List PendingEntry) (flags : List Bool) → stays words lines e ≡ true → NoneWaits e (kept es) flags → NoneWaits e es (wide es flags)
  wide_waits bound e [] flags mine h = tt
  wide_waits bound e (f ∷ fs) [] mine h = tt
  wide_waits bound e (f ∷ fs) (flag ∷ flags) mine h =
      elim (cases_Bool (stays words lines f)) [
        | inl on ↦ let k : NoneWaits e (f ∷ kept fs) (flag ∷ flags) = rw on at h in rw on (by flag k (λ rest. wide_waits bound e fs flags mine rest))
        | inr off ↦
            let k : NoneWaits e (kept fs) (flag ∷ flags) = rw off at h in
            let rest : NoneWaits e fs (wide fs (flag ∷ flags)) = wide_waits bound e fs (flag ∷ flags) mine k in
            rw off (behind (waits f fs (wide fs (flag ∷ flags))) (λ some. free_behind bound e f fs (wide fs (flag ∷ flags)) mine off some rest) rest)
      ]
    where
      by : (b : Bool) → NoneWaits e (f ∷ kept fs) (b ∷ flags) → (NoneWaits e (kept fs) flags → NoneWaits e fs (wide fs flags)) → NoneWaits e (f ∷ fs) (b ∷ wide fs flags)
      by true k go = (k.0, go k.1)
      by false k go = go k

      behind : (b : Bool) → (b ≡ true → leaves_first (line_named f) e ≡ false) → NoneWaits e fs (wide fs (flag ∷ flags)) → NoneWaits e (f ∷ fs) (b ∷ wide fs (flag ∷ flags))
      behind true free rest = (free refl, rest)
      behind false free rest = rest

  wide_left : Bound → (es : List PendingEntry) (flags : List Bool) → NoneIsLeft (kept es) flags → NoneIsLeft es (wide es flags)
  wide_left bound [] flags h = tt
  wide_left bound (e ∷ es) [] h = tt
  wide_left bound (e ∷ es) (flag ∷ flags) h =
      elim (cases_Bool (stays words lines e)) [
        | inl on ↦ let k : NoneIsLeft (e ∷ kept es) (flag ∷ flags) = rw on at h in rw on (by flag on k (λ rest. wide_left bound es flags rest))
        | inr off ↦
            let k : NoneIsLeft (kept es) (flag ∷ flags) = rw off at h in
            rw off (behind (waits e es (wide es (flag ∷ flags))) refl (wide_left bound es (flag ∷ flags) k))
      ]
    where
      by : (b : Bool) → stays words lines e ≡ true → NoneIsLeft (e ∷ kept es) (b ∷ flags) → (NoneIsLeft (kept es) flags → NoneIsLeft es (wide es flags)) → NoneIsLeft (e ∷ es) (b ∷ wide es flags)
      by true on k go = go k
      by false on k go = (wide_waits bound e es flags on k.0, go k.1)

      behind : (b : Bool) → waits e es (wide es (flag ∷ flags)) ≡ b → NoneIsLeft es (wide es (flag ∷ flags)) → NoneIsLeft (e ∷ es) (b ∷ wide es (flag ∷ flags))
      behind true is rest = rest
      behind false is rest = (none_where e es (wide es (flag ∷ flags)) is, rest)

  -- ---- what they leave

  abbrev Alike : List ℕ → List ℕ → Type 0
  Alike xs ys = (length xs ≡ length ys) × AreAlikeAt words xs ys

  alike_both : (xs ys : List ℕ) (e : PendingEntry) → Alike xs ys → Alike (after e xs) (after e ys)
  alike_both xs ys (Write word value) (size, same) = (length-set xs word value ∙ size ∙ sym (length-set ys word value), λ seen on. same_set xs ys word value seen size (same seen on))
  alike_both xs ys (Marker l) h = h

  alike_one : (xs ys : List ℕ) (e : PendingEntry) → stays words lines e ≡ false → Alike xs ys → Alike (after e xs) ys
  alike_one xs ys (Write word value) off (size, same) = (
    length-set xs word value ∙ size,
    λ seen on. get_or-set_other xs word seen value 0 (λ e. true≢false (sym on ∙ ap words e ∙ off)) ∙ same seen on,
  )
  alike_one xs ys (Marker l) off h = h

  narrow_alike : (es : List PendingEntry) (flags : List Bool) (xs ys : List ℕ) → Alike xs ys → Alike (written (flagged es flags) xs) (written (flagged (kept es) (narrow es flags)) ys)
  narrow_alike [] flags xs ys h = h
  narrow_alike (e ∷ es) [] xs ys h = subst (λ (zs : List PendingEntry). Alike xs (written zs ys)) (sym (nothing (kept (e ∷ es)))) h
    where
      nothing : (zs : List PendingEntry) → flagged zs [] ≡ []
      nothing [] = refl
      nothing (z ∷ zs) = refl
  narrow_alike (e ∷ es) (true ∷ flags) xs ys h =
      elim (cases_Bool (stays words lines e)) [
        | inl on ↦ rw on (narrow_alike es flags (after e xs) (after e ys) (alike_both xs ys e h))
        | inr off ↦ rw off (narrow_alike es flags (after e xs) ys (alike_one xs ys e off h))
      ]
  narrow_alike (e ∷ es) (false ∷ flags) xs ys h =
      elim (cases_Bool (stays words lines e)) [
        | inl on ↦ rw on (narrow_alike es flags xs ys h)
        | inr off ↦ rw off (narrow_alike es flags xs ys h)
      ]

  wide_alike : (es : List PendingEntry) (flags : List Bool) (xs ys : List ℕ) → Alike xs ys → Alike (written (flagged es (wide es flags)) xs) (written (flagged (kept es) flags) ys)
  wide_alike [] flags xs ys h = h
  wide_alike (e ∷ es) [] xs ys h = subst (λ (zs : List PendingEntry). Alike xs (written zs ys)) (sym (nothing (kept (e ∷ es)))) h
    where
      nothing : (zs : List PendingEntry) → flagged zs [] ≡ []
      nothing [] = refl
      nothing (z ∷ zs) = refl
  wide_alike (e ∷ es) (flag ∷ flags) xs ys h =
      elim (cases_Bool (stays words lines e)) [
        | inl on ↦ rw on (by flag (wide_alike es flags (after e xs) (after e ys) (alike_both xs ys e h)) (wide_alike es flags xs ys h))
        | inr off ↦ rw off (behind (waits e es (wide es (flag ∷ flags))) (wide_alike es (flag ∷ flags) (after e xs) ys (alike_one xs ys e off h)) (wide_alike es (flag ∷ flags) xs ys h))
      ]
    where
      by : (b : Bool) → Alike (written (flagged es (wide es flags)) (after e xs)) (written (flagged (kept es) flags) (after e ys))
          → Alike (written (flagged es (wide es flags)) xs) (written (flagged (kept es) flags) ys)
          → Alike (written (flagged (e ∷ es) (b ∷ wide es flags)) xs) (written (flagged (e ∷ kept es) (b ∷ flags)) ys)
      by true held free = held
      by false held free = free

      behind : (b : Bool) → Alike (written (flagged es (wide es (flag ∷ flags))) (after e xs)) (written (flagged (kept es) (flag ∷ flags)) ys)
          → Alike (written (flagged es (wide es (flag ∷ flags))) xs) (written (flagged (kept es) (flag ∷ flags)) ys)
          → Alike (written (flagged (e ∷ es) (b ∷ wide es (flag ∷ flags))) xs) (written (flagged (kept es) (flag ∷ flags)) ys)
      behind true held free = held
      behind false held free = free

  -- ---- memories

  pub narrow_reached : (m rest : Memory) (persisted : List ℕ) → IsRest words lines m rest → IsReached m persisted
      → (other : List ℕ) × IsReached rest other × AreAlikeAt words persisted other
  narrow_reached m rest persisted left reached =
      let (flags, closed, is) = (closed_law m persisted).0 reached in
      let es = m.pending in
      let mine = narrow es flags in
      let other = written (flagged (kept es) mine) rest.persisted in
      let set : IsClosed (kept es) mine = closed_of (kept es) mine (narrow_left es flags (none_is_left es flags closed)) in
      let alike : AreAlikeAt words (written (flagged es flags) m.persisted) other = (narrow_alike es flags m.persisted rest.persisted (sym left.size, left.persisted)).1 in (
        other,
        (closed_law rest other).1 (
          mine,
          subst (λ (pending : List PendingEntry). IsClosed pending mine) (sym left.pending) set,
          ap (λ (pending : List PendingEntry). written (flagged pending mine) rest.persisted) (sym left.pending),
        ),
        subst (λ (values : List ℕ). AreAlikeAt words values other) (sym is) alike,
      )

  pub wide_reached : (m rest : Memory) (other : List ℕ) → IsRest words lines m rest → IsReached rest other
      → (persisted : List ℕ) × IsReached m persisted × AreAlikeAt words persisted other
  wide_reached m rest other left reached =
      let (flags, closed, is) = (closed_law rest other).0 reached in
      let es = m.pending in
      let all = wide es flags in
      let persisted = written (flagged es all) m.persisted in
      let mine : IsClosed (kept es) flags = subst (λ (pending : List PendingEntry). IsClosed pending flags) left.pending closed in
      let shown : other ≡ written (flagged (kept es) flags) rest.persisted = is ∙ ap (λ (pending : List PendingEntry). written (flagged pending flags) rest.persisted) left.pending in
      let set : IsClosed es all = closed_of es all (wide_left left.bound es flags (none_is_left (kept es) flags mine)) in
      let alike : AreAlikeAt words persisted (written (flagged (kept es) flags) rest.persisted) = (wide_alike es flags m.persisted rest.persisted (sym left.size, left.persisted)).1 in (
        persisted,
        (closed_law m persisted).1 (all, set, refl),
        subst (λ (values : List ℕ). AreAlikeAt words persisted values) (sym shown) alike,
      )

  -- ---- values

  -- these words have the same values in two images
  abbrev AreShownAlike : List ℕ → List ℕ → List ℕ → Type 0
  AreShownAlike shape image other = (word : ℕ) → words word ≡ true → value_of shape image word ≡ value_of shape other word

  shown_alike : (shape xs ys : List ℕ) → AreAlikeAt words xs ys → AreShownAlike shape (image_at shape xs) (image_at shape ys)
  shown_alike shape xs ys same word on =
      value_read shape xs word ∙ ap (λ (value : ℕ). if has_word shape word then Some value else None) (same word on) ∙ sym (value_read shape ys word)

  -- each image of one memory has one of another that has the same values there
  abbrev Follows : List ℕ → Memory → Memory → Type 0
  Follows shape m n = (image : List ℕ) → IsImage shape m image → (other : List ℕ) × IsImage shape n other × AreShownAlike shape image other

  narrow_image : (shape : List ℕ) (m rest : Memory) → IsRest words lines m rest → Follows shape m rest
  narrow_image shape m rest left image (persisted, reached, is) =
      let (other, there, same) = narrow_reached m rest persisted left reached in (
        image_at shape other,
        (other, there, refl),
        subst (λ (seen : List ℕ). AreShownAlike shape seen (image_at shape other)) (sym is) (shown_alike shape persisted other same),
      )

  wide_image : (shape : List ℕ) (m rest : Memory) → IsRest words lines m rest → Follows shape rest m
  wide_image shape m rest left image (other, reached, is) =
      let (persisted, there, same) = wide_reached m rest other left reached in (
        image_at shape persisted,
        (persisted, there, refl),
        subst (λ (seen : List ℕ). AreShownAlike shape seen (image_at shape persisted)) (sym is) (shown_alike shape other persisted (λ word on. sym (same word on))),
      )

  -- an image that agrees has this value of a word
  abbrev IsFound : List ℕ → List (ℕ × ℕ) → ℕ → Memory → ℕ → Type 0
  IsFound shape given word m value = (image : List ℕ) × IsImage shape m image × Agrees shape image given × (value_of shape image word ≡ Some value)

  found_too : (shape : List ℕ) (given : List (ℕ × ℕ)) (word : ℕ) (m n : Memory) (value : ℕ) → words word ≡ true → AreOf words given → Follows shape m n
      → IsFound shape given word m value → IsFound shape given word n value
  found_too shape given word m n value on all follows (image, is, agrees, has) =
      let (other, there, same) = follows image is in
      (other, there, λ w v g. sym (same w (all w v g)) ∙ agrees w v g, sym (same word on) ∙ has)

  values_too : (shape : List ℕ) (given : List (ℕ × ℕ)) (word : ℕ) (m n : Memory) (values : List ℕ) → words word ≡ true → AreOf words given → Follows shape m n → Follows shape n m
      → AreValues shape m given word values → AreValues shape n given word values
  values_too shape given word m n values on all to back h = record {
    exact = λ value. (
      (λ c. found_too shape given word m n value on all to ((h.exact value).0 c)),
      (λ f. (h.exact value).1 (found_too shape given word n m value on all back f)),
    );
    ascending = h.ascending;
  }

  pub values_of_rest : (m rest : Memory) (shape : List ℕ) (given : List (ℕ × ℕ)) (word : ℕ) (values : List ℕ) → IsRest words lines m rest → words word ≡ true → AreOf words given
      → AreValues shape m given word values ↔ AreValues shape rest given word values
  values_of_rest m rest shape given word values left on all = (
    values_too shape given word m rest values on all (narrow_image shape m rest left) (wide_image shape m rest left),
    values_too shape given word rest m values on all (wide_image shape m rest left) (narrow_image shape m rest left),
  )

-- ---- all entries of some lines

module _ (lines : ℕ → Bool) where
  abbrev words_of_them : ℕ → Bool
  words_of_them word = lines (line_of word)

  all_stay : (es : List PendingEntry) → filter (λ e. lines (line_named e)) es ≡ filter (stays words_of_them lines) es
  all_stay [] = refl
  all_stay (Write word value ∷ es) = rw (all_stay es) refl
  all_stay (Marker line ∷ es) = rw (all_stay es) refl

  is_rest : (m : Memory) → IsRest words_of_them lines m (memory_on lines m)
  is_rest m = record { bound = λ word on. on; pending = all_stay m.pending; persisted = λ word on. refl; size = refl }

  pub narrow_on : (m : Memory) (persisted : List ℕ) → IsReached m persisted → (other : List ℕ) × IsReached (memory_on lines m) other × AreAlikeOn lines persisted other
  narrow_on m persisted reached = narrow_reached words_of_them lines m (memory_on lines m) persisted (is_rest m) reached

  pub wide_on : (m : Memory) (other : List ℕ) → IsReached (memory_on lines m) other → (persisted : List ℕ) × IsReached m persisted × AreAlikeOn lines persisted other
  wide_on m other reached = wide_reached words_of_them lines m (memory_on lines m) other (is_rest m) reached
