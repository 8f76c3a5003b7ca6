-- The first image of a listing that passes a test is the least that does.
use Rattle.std.proofs.Common.{◌≡◌, ℕ, zero, suc, ◌⊎◌, inl, inr, Bool, true, false, Option, Some, None, List, [], ◌∷◌, refl, sym, subst, ◌∙◌, arith, true≢false}
use Rattle.std.proofs.lemmas.Bool.{cases_Bool}
use Rattle.std.specs.Prelude.{find, Contains}
use Rattle.std.specs.List.{AllByRecursion}
use Rattle.std.specs.List.Sorted.{IsStrictlySortedBy}
use Rattle.std.specs.Ordering.{nat_cmp}
use Rattle.std.specs.Cmp.Lexicographic.{slice_cmp}
use Rattle.std.specs.declared.cmp.Ordering.TheVariants.{Less}
use Rattle.machine.specs.State.{State}
use Rattle.images.specs.Images.{IsListing}
use Rattle.images.specs.Firsts.{IsLeastImage}

in_cons : (x : List ℕ) (xs : List (List ℕ)) (y : List ℕ) → Contains (x ∷ xs) y → (x ≡ y) ⊎ Contains xs y
in_cons x xs y (zero, lt, e) = inl e
in_cons x xs y (suc k, lt, e) = inr (k, omega (arith, lt), e)

behind : (x : List ℕ) (xs : List (List ℕ)) (y : List ℕ) → Contains xs y → Contains (x ∷ xs) y
behind x xs y (k, lt, e) = (suc k, omega (arith, lt), e)

-- what holds of each element holds of one
of_each : (P : List ℕ → Type 0) (xs : List (List ℕ)) (y : List ℕ) → AllByRecursion P xs → Contains xs y → P y
of_each P [] y h (k, lt, e) = absurd (omega (arith, lt))
of_each P (x ∷ xs) y (first, rest) c = elim (in_cons x xs y c) [ inl e ↦ subst P e first | inr d ↦ of_each P xs y rest d ]

-- no element passes, or this one and none below it
abbrev LeastIn : List (List ℕ) → (List ℕ → Bool) → Option (List ℕ) → Type 0
LeastIn xs test None = (y : List ℕ) → Contains xs y → test y ≡ false
LeastIn xs test (Some x) = Contains xs x × (test x ≡ true) × ((y : List ℕ) → Contains xs y → test y ≡ true → (x ≡ y) ⊎ (slice_cmp nat_cmp x y ≡ Less))

differ : (test : List ℕ → Bool) (x y : List ℕ) → test x ≡ false → test y ≡ true → x ≡ y → ⊥
differ test x y off on e = true≢false (sym on ∙ subst (λ (z : List ℕ). test z ≡ false) e off)

passed_over : (test : List ℕ → Bool) (x : List ℕ) (xs : List (List ℕ)) → test x ≡ false → (r : Option (List ℕ)) → LeastIn xs test r → LeastIn (x ∷ xs) test r
passed_over test x xs off None h = λ y c. elim (in_cons x xs y c) [ inl e ↦ subst (λ (z : List ℕ). test z ≡ false) e off | inr d ↦ h y d ]
passed_over test x xs off (Some z) h =
    (behind x xs z h.0, h.1, λ y c on. elim (in_cons x xs y c) [ inl e ↦ absurd (differ test x y off on e) | inr d ↦ h.2 y d on ])

found_here : (test : List ℕ → Bool) (x : List ℕ) (xs : List (List ℕ)) → test x ≡ true → find test (x ∷ xs) ≡ Some x
found_here test x xs on = rw on refl

found_behind : (test : List ℕ → Bool) (x : List ℕ) (xs : List (List ℕ)) → test x ≡ false → find test (x ∷ xs) ≡ find test xs
found_behind test x xs off = rw off refl

found_is_least : (test : List ℕ → Bool) (xs : List (List ℕ)) → IsStrictlySortedBy (slice_cmp nat_cmp) xs → LeastIn xs test (find test xs)
unfolding IsStrictlySortedBy
found_is_least test [] sorted = λ y (k, lt, e). absurd (omega (arith, lt))
found_is_least test (x ∷ xs) (below, sorted) =
    elim (cases_Bool (test x)) [
      | inl on ↦
          let least : LeastIn (x ∷ xs) test (Some x) = (
            (0, omega arith, refl),
            on,
            λ y c passes. elim (in_cons x xs y c) [
              | inl e ↦ inl e
              | inr d ↦ inr (of_each (λ (z : List ℕ). slice_cmp nat_cmp x z ≡ Less) xs y below d)
            ],
          ) in
          subst (λ (r : Option (List ℕ)). LeastIn (x ∷ xs) test r) (sym (found_here test x xs on)) least
      | inr off ↦
          subst (λ (r : Option (List ℕ)). LeastIn (x ∷ xs) test r) (sym (found_behind test x xs off)) (passed_over test x xs off (find test xs) (found_is_least test xs sorted))
    ]

of_listing : (s : State) (images : List (List ℕ)) → IsListing s images → (test : List ℕ → Bool) (r : Option (List ℕ)) → LeastIn images test r → IsLeastImage s test r
of_listing s images listing test None h = λ image is. h image ((listing.exact image).1 is)
of_listing s images listing test (Some x) h = ((listing.exact x).0 h.0, h.1, λ image is on. h.2 image ((listing.exact image).1 is) on)

pub first_is_least : (s : State) (test : List ℕ → Bool) (images : List (List ℕ)) (r : Option (List ℕ)) → r ≡ find test images → IsListing s images → IsLeastImage s test r
first_is_least s test images r e listing =
    subst (λ (found : Option (List ℕ)). IsLeastImage s test found) (sym e) (of_listing s images listing test (find test images) (found_is_least test images listing.ascending))
