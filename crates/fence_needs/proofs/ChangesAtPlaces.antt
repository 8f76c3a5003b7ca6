-- A change at one place of a list, as far as a loop over it has come.
use Rattle.std.proofs.Common.{◌≡◌, ◌≢◌, ℕ, zero, suc, ◌+◌, ◌<◌, cond, List, [], ◌∷◌, ◌++◌, length, take, get_or, refl, sym, ap, ◌∙◌, arith, add-one}
use Rattle.std.specs.Prelude.{◌==◌, if◌then◌else◌, option_map, slice_get}
use Rattle.std.proofs.Math.Dec.{eqb-suc-suc, eqb-suc-zero, eqb-zero-suc}
use Rattle.fence_needs.specs.Changes.{changed_at}

module _ {A : Type 0} (change : A → A) where
  -- what stands at a place i then, where n is the changed one
  abbrev next : ℕ → ℕ → A → A
  next n i x = if i == n then change x else x

  same_test : (n i : ℕ) (x : A) → next n i x ≡ next (suc n) (suc i) x
  same_test n i x = ap (λ b. cond b (change x) x) (sym (eqb-suc-suc i n))

  taken : (xs : List A) (i : ℕ) (d : A) → i < length xs → take (suc i) xs ≡ take i xs ++ get_or xs i d ∷ []
  taken [] i d within = absurd (omega (arith, within))
  taken (x ∷ xs) zero d within = refl
  taken (x ∷ xs) (suc i) d within = ap (λ ys. x ∷ ys) (taken xs i d (omega (arith, within)))

  changed_next : (n : ℕ) (xs : List A) (i : ℕ) (d : A) → i < length xs
      → changed_at n change (take (suc i) xs) ≡ changed_at n change (take i xs) ++ next n i (get_or xs i d) ∷ []
  changed_next n [] i d within = absurd (omega (arith, within))
  changed_next zero (x ∷ xs) zero d within = refl
  changed_next (suc n) (x ∷ xs) zero d within = ap (λ b. cond b (change x) x ∷ []) (sym (eqb-zero-suc n))
  changed_next zero (x ∷ xs) (suc i) d within =
      ap (λ ys. change x ∷ ys) (taken xs i d (omega (arith, within)) ∙ ap (λ b. take i xs ++ cond b (change (get_or xs i d)) (get_or xs i d) ∷ []) (sym (eqb-suc-zero i)))
  changed_next (suc n) (x ∷ xs) (suc i) d within =
      ap (λ ys. x ∷ ys) (changed_next n xs i d (omega (arith, within)) ∙ ap (λ y. changed_at n change (take i xs) ++ y ∷ []) (same_test n i (get_or xs i d)))

pub changed_more : {A : Type 0} (n : ℕ) (change : A → A) (xs : List A) (i : ℕ) (d : A) → i < length xs
    → changed_at n change (take (i + 1) xs) ≡ changed_at n change (take i xs) ++ (if i == n then change (get_or xs i d) else get_or xs i d) ∷ []
changed_more n change xs i d within = rw add-one (changed_next change n xs i d within)

-- what stands at the place, and at each other
pub changed_there : {A : Type 0} (change : A → A) (n : ℕ) (xs : List A) → slice_get (changed_at n change xs) n ≡ option_map change (slice_get xs n)
changed_there change n [] = refl
changed_there change zero (x ∷ xs) = refl
changed_there change (suc n) (x ∷ xs) = changed_there change n xs

pub same_elsewhere : {A : Type 0} (change : A → A) (n : ℕ) (xs : List A) (i : ℕ) → i ≢ n → slice_get (changed_at n change xs) i ≡ slice_get xs i
same_elsewhere change n [] i other = refl
same_elsewhere change zero (x ∷ xs) zero other = absurd (other refl)
same_elsewhere change zero (x ∷ xs) (suc i) other = refl
same_elsewhere change (suc n) (x ∷ xs) zero other = refl
same_elsewhere change (suc n) (x ∷ xs) (suc i) other = same_elsewhere change n xs i (λ e. other (ap suc e))
