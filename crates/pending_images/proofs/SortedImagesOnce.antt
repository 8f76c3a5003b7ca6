-- What is left of images that were sorted, and of which repeats were dropped.
use Rattle.pending_images.specs.Listings.{in_order}
use Rattle.pending_images.proofs.OrderedImages.{same_order}
use Rattle.std.proofs.Common.{◌≡◌, ℕ, List, [], ◌↔◌, sym, subst, nat_eq}
use Rattle.std.specs.List.{Contains}
use Rattle.std.specs.List.Retain.{IsFiltered, DiffersFromLast}
use Rattle.std.specs.List.Sorted.{IsPermutation, IsSorted, IsStrictlySortedBy}
use Rattle.std.specs.Ordering.{nat_cmp}
use Rattle.std.specs.Cmp.Lexicographic.{slice_cmp, pointwise, nat_list_cmp_total, nat_list_eq_equiv, texts_ties, same_text}
use Rattle.std.proofs.lemmas.List.Filters.{dedup_is}
use Rattle.std.proofs.lemmas.List.Kept.{IsStrictlySortedBy-dedup, Contains-dedup, Contains-from_dedup}
use Rattle.std.proofs.lemmas.List.Sorted.{Contains-permutation, IsPermutation-sym}

pub once_has : (xs ys zs : List (List ℕ)) → IsPermutation xs ys → IsFiltered (DiffersFromLast (pointwise nat_eq)) [] ys zs → (image : List ℕ) → Contains zs image ↔ Contains xs image
once_has xs ys zs moved filtered image =
    let is = dedup_is (pointwise nat_eq) ys zs filtered in (
      (λ h. Contains-permutation ys xs image (IsPermutation-sym xs ys moved) (Contains-from_dedup (pointwise nat_eq) ys image (subst (λ l. Contains l image) is h))),
      (λ h. subst (λ l. Contains l image) (sym is) (Contains-dedup nat_list_eq_equiv (λ a b e. same_text a b (sym e)) ys image (Contains-permutation xs ys image moved h))),
    )

pub once_rises : (ys zs : List (List ℕ)) → IsSorted (slice_cmp nat_cmp) ys → IsFiltered (DiffersFromLast (pointwise nat_eq)) [] ys zs → IsStrictlySortedBy (slice_cmp nat_cmp) zs
once_rises ys zs sorted filtered =
    subst (IsStrictlySortedBy (slice_cmp nat_cmp)) (sym (dedup_is (pointwise nat_eq) ys zs filtered)) (IsStrictlySortedBy-dedup nat_list_cmp_total texts_ties ys sorted)

pub once_is : (xs ys zs : List (List ℕ)) → IsPermutation xs ys → IsSorted (slice_cmp nat_cmp) ys → IsFiltered (DiffersFromLast (pointwise nat_eq)) [] ys zs → zs ≡ in_order xs
once_is xs ys zs moved sorted filtered = same_order xs zs (once_has xs ys zs moved filtered) (once_rises ys zs sorted filtered)
