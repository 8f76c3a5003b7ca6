-- The values of a word in the listed images are those in all images.
use Rattle.std.proofs.Common.{◌≡◌, ◌↔◌, ℕ, true, Option, None, Some, List, [], ◌∷◌, nat_eq, refl, ap, sym, subst, ◌∙◌, inl, inr, eq-eqb, eqb-true, true≢false}
use Rattle.std.specs.Prelude.{length}
use Rattle.std.specs.List.{Contains}
use Rattle.std.specs.List.Retain.{IsFiltered, DiffersFromLast}
use Rattle.std.specs.List.Sorted.{IsPermutation, IsSorted, IsStrictlySortedBy}
use Rattle.std.specs.Ordering.{nat_cmp}
use Rattle.std.specs.Cmp.{nat_cmp_total, nat_eq_equiv, unsigned_ties}
use Rattle.std.proofs.lemmas.Bool.{cases_Bool}
use Rattle.std.proofs.lemmas.List.Filters.{dedup_is}
use Rattle.std.proofs.lemmas.List.Kept.{IsStrictlySortedBy-dedup, Contains-dedup, Contains-from_dedup}
use Rattle.std.proofs.lemmas.List.Sorted.{Contains-permutation, IsPermutation-sym}
use Rattle.lines_layout.specs.Lines.{max_lines, max_words}
use Rattle.lines_layout.specs.Shapes.{IsShape}
use Rattle.persist_buffer.specs.Listings.{LinesBelow}
use Rattle.persist_buffer.specs.State.{Memory}
use Rattle.pending_images.specs.Agreements.{all_found_in, found_in, has_all}
use Rattle.pending_images.specs.Images.{value_of}
use Rattle.pending_images.specs.Listings.{images_of}
use Rattle.pending_images.specs.Values.{Agrees, AreValues, agrees, is_value, values_among, values_of, with_value}
use Rattle.pending_images.proofs.ImagesAreListed.{is_listing}
use Rattle.pending_images.proofs.Members.{all_pass, each_passes, first_has, has_cases, later_has, none_has}
use Rattle.pending_images.proofs.OrderedImages.{numbers_have, numbers_rise, same_numbers}
use Rattle.pending_images.proofs.ValuesAreExact.{found_exact, none_seen}

-- ---- numbers that were sorted, and of which repeats were dropped

pub once_has : (xs ys zs : List ℕ) → IsPermutation xs ys → IsFiltered (DiffersFromLast nat_eq) [] ys zs → (v : ℕ) → Contains zs v ↔ Contains xs v
once_has xs ys zs moved filtered v =
    let is = dedup_is nat_eq ys zs filtered in (
      (λ h. Contains-permutation ys xs v (IsPermutation-sym xs ys moved) (Contains-from_dedup nat_eq ys v (subst (λ l. Contains l v) is h))),
      (λ h. subst (λ l. Contains l v) (sym is) (Contains-dedup nat_eq_equiv (λ a b e. eqb-true a b e) ys v (Contains-permutation xs ys v moved h))),
    )

pub once_rises : (ys zs : List ℕ) → IsSorted nat_cmp ys → IsFiltered (DiffersFromLast nat_eq) [] ys zs → IsStrictlySortedBy nat_cmp zs
once_rises ys zs sorted filtered = subst (IsStrictlySortedBy nat_cmp) (sym (dedup_is nat_eq ys zs filtered)) (IsStrictlySortedBy-dedup nat_cmp_total unsigned_ties ys sorted)

-- ---- images that agree

value_known : (o : Option ℕ) (v : ℕ) → is_value v o ≡ true → o ≡ Some v
value_known None v is = absurd (true≢false (sym is))
value_known (Some x) v is = ap (λ (y : ℕ). Some y) (eqb-true x v is)

known_value : (o : Option ℕ) (v : ℕ) → o ≡ Some v → is_value v o ≡ true
known_value o v is = ap (is_value v) is ∙ eq-eqb v v refl

agrees_is : (shape image : List ℕ) (given : List (ℕ × ℕ)) → agrees shape image given ≡ true → Agrees shape image given
agrees_is shape image given is w x there = value_known (value_of shape image w) x (each_passes (λ (g : ℕ × ℕ). is_value g.1 (value_of shape image g.0)) given is (w, x) there)

is_agrees : (shape image : List ℕ) (given : List (ℕ × ℕ)) → Agrees shape image given → agrees shape image given ≡ true
is_agrees shape image given is = all_pass (λ (g : ℕ × ℕ). is_value g.1 (value_of shape image g.0)) given (λ g there. known_value (value_of shape image g.0) g.1 (is g.0 g.1 there))

module _ (shape : List ℕ) (given : List (ℕ × ℕ)) (word : ℕ) where
  abbrev SeenIn : List (List ℕ) → ℕ → Type 0
  SeenIn images v = (image : List ℕ) × Contains images image × Agrees shape image given × (value_of shape image word ≡ Some v)

  seen_later : (first : List ℕ) (images : List (List ℕ)) (v : ℕ) → SeenIn images v → SeenIn (first ∷ images) v
  seen_later first images v (image, there, agrees, value) = (image, later_has first images image there, agrees, value)

  among_has : (images : List (List ℕ)) (v : ℕ) → Contains (values_among shape given word images) v → SeenIn images v
  among_has [] v h = none_has _ v h
  among_has (first ∷ images) v h =
      elim (cases_Bool (agrees shape first given)) [
        | inl on ↦ by (value_of shape first word) refl on (λ rest. among_has images v rest) (rw on at h)
        | inr off ↦ seen_later first images v (among_has images v (rw off at h))
      ]
    where
      by : (found : Option ℕ) → value_of shape first word ≡ found → agrees shape first given ≡ true → (Contains (values_among shape given word images) v → SeenIn images v)
          → Contains (with_value found (values_among shape given word images)) v → SeenIn (first ∷ images) v
      by None is on later there = seen_later first images v (later there)
      by (Some x) is on later there =
          elim (has_cases x (values_among shape given word images) v there) [
            | inl same ↦ (first, first_has first images, agrees_is shape first given on, is ∙ ap (λ (y : ℕ). Some y) same)
            | inr rest ↦ seen_later first images v (later rest)
          ]

  with_has : (found : Option ℕ) (values : List ℕ) (v : ℕ) → Contains values v → Contains (with_value found values) v
  with_has None values v h = h
  with_has (Some x) values v h = later_has x values v h

  has_among : (images : List (List ℕ)) (v : ℕ) → SeenIn images v → Contains (values_among shape given word images) v
  has_among [] v (image, there, agrees, value) = none_has _ image there
  has_among (first ∷ images) v (image, there, agreeing, value) =
      elim (has_cases first images image there) [
        | inl same ↦
            let on : agrees shape first given ≡ true = is_agrees shape first given (subst (λ (i : List ℕ). Agrees shape i given) (sym same) agreeing) in
            let is : value_of shape first word ≡ Some v = ap (λ (i : List ℕ). value_of shape i word) same ∙ value in
            rw (on, is) (first_has v (values_among shape given word images))
        | inr rest ↦
            let later = has_among images v (image, rest, agreeing, value) in
            elim (cases_Bool (agrees shape first given)) [
              | inl on ↦ rw on (with_has (value_of shape first word) (values_among shape given word images) v later)
              | inr off ↦ rw off later
            ]
      ]

module _ (shape : List ℕ) (m : Memory) (given : List (ℕ × ℕ)) (word : ℕ) (is_shape : IsShape shape) (below : LinesBelow max_lines m.pending) (size : length m.persisted ≡ max_words) where
  pub are_values : AreValues shape m given word (values_of shape m given word)
  are_values = record {
    exact = λ v.
        let has = numbers_have (values_among shape given word (images_of shape m)) v in
        let listed = is_listing shape m is_shape below size in (
          (λ h. let (image, there, agrees, value) = among_has shape given word (images_of shape m) v (has.0 h) in (image, (listed.exact image).0 there, agrees, value)),
          (λ seen. let (image, is, agrees, value) = seen in has.1 (has_among shape given word (images_of shape m) v (image, (listed.exact image).1 is, agrees, value))),
        );
    ascending = numbers_rise (values_among shape given word (images_of shape m));
  }

  pub only_values : (values : List ℕ) → AreValues shape m given word values → values ≡ values_of shape m given word
  only_values values are =
      same_numbers values (values_of shape m given word) are.ascending (are_values.ascending)
      (λ v. ((λ h. (are_values.exact v).1 ((are.exact v).0 h)), (λ h. (are.exact v).1 ((are_values.exact v).0 h))))

  -- what the code finds, sorted and without repeats
  pub found_are : (found values : List ℕ) → found ≡ all_found_in (record { shape = shape; memory = m }) given word → ((v : ℕ) → Contains values v ↔ Contains found v) → IsStrictlySortedBy nat_cmp values
      → AreValues shape m given word values
  found_are found values is same rises =
      elim (cases_Bool (has_all shape given word)) [
        | inl there ↦ record {
          exact = λ v.
              let exact = found_exact shape m given word is_shape below size there v in
              let e : found ≡ found_in (record { shape = shape; memory = m }) given word = (let same_as : all_found_in (record { shape = shape; memory = m }) given word ≡ found_in (record { shape = shape; memory = m }) given word = rw there refl in is ∙ same_as) in (
                (λ h. exact.0 (subst (λ (l : List ℕ). Contains l v) e ((same v).0 h))),
                (λ seen. (same v).1 (subst (λ (l : List ℕ). Contains l v) (sym e) (exact.1 seen))),
              );
          ascending = rises;
        }
        | inr lacks ↦ record {
          exact = λ v.
              let e : found ≡ [] = (let none : all_found_in (record { shape = shape; memory = m }) given word ≡ [] = rw lacks refl in is ∙ none) in (
                (λ h. none_has _ v (subst (λ (l : List ℕ). Contains l v) e ((same v).0 h))),
                (λ seen. absurd (none_seen shape m given word is_shape below size lacks v seen)),
              );
          ascending = rises;
        }
      ]
