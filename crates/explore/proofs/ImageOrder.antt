-- Lists of numbers in the order of images: by the first place in which two differ.
use Rattle.std.proofs.Common.{◌≡◌, ◌≢◌, ◌⊎◌, ℕ, zero, suc, ◌+◌, ◌<◌, ◌≤◌, ◌==◌, true, false, inl, inr, List, [], ◌∷◌, ◌++◌, length, map, refl, sym, ap, ap₂, subst, ◌∙◌, arith, eq-eqb, ne_eqb, true≢false}
use Rattle.std.specs.Prelude.{nat_lt}
use Rattle.std.specs.List.{range_with_len}
use Rattle.std.specs.Ordering.{is_gt, nat_cmp}
use Rattle.std.specs.Cmp.Lexicographic.{slice_cmp}
use Rattle.std.specs.declared.cmp.Ordering.TheVariants.{Less, Greater}
use Rattle.std.proofs.lemmas.Bool.{cases_lt}
use Rattle.std.proofs.lemmas.Bool.Decides.{nat_tests}

-- as long a list is the same or less
abbrev pub Upto : List ℕ → List ℕ → Type 0
Upto [] ys = length ys ≡ 0
Upto (x ∷ xs) [] = ⊥
Upto (x ∷ xs) (y ∷ ys) = (x < y) × (length xs ≡ length ys) ⊎ (x ≡ y) × Upto xs ys

first_less : (a b : ℕ) (xs ys : List ℕ) → a < b → slice_cmp nat_cmp (a ∷ xs) (b ∷ ys) ≡ Less
first_less a b xs ys lt = let test : nat_lt a b ≡ true = grind (arith, nat_tests, lt) in rw test refl

first_greater : (a b : ℕ) (xs ys : List ℕ) → b < a → slice_cmp nat_cmp (a ∷ xs) (b ∷ ys) ≡ Greater
first_greater a b xs ys gt =
    let le : b ≤ a = omega (arith, gt) in
    let differ : a ≢ b = omega (arith, gt) in
    let test : nat_lt a b ≡ false = grind (arith, nat_tests, le) in
    let off : (a == b) ≡ false = ne_eqb a b differ in
    rw (test, off) refl

first_same : (a b : ℕ) (xs ys : List ℕ) → a ≡ b → slice_cmp nat_cmp (a ∷ xs) (b ∷ ys) ≡ slice_cmp nat_cmp xs ys
first_same a b xs ys same =
    let le : b ≤ a = omega (arith, same) in
    let test : nat_lt a b ≡ false = grind (arith, nat_tests, le) in
    let on : (a == b) ≡ true = eq-eqb a b same in
    rw (test, on) refl

pub upto : (xs ys : List ℕ) → length xs ≡ length ys → slice_cmp nat_cmp xs ys ≢ Greater → Upto xs ys
upto [] ys long h = sym long
upto (x ∷ xs) [] long h = absurd (omega (arith, long))
upto (x ∷ xs) (y ∷ ys) long h =
    elim (cases_lt x y) [
      | inl lt ↦ inl (lt, omega (arith, long))
      | inr ge ↦ elim (cases_lt y x) [
        | inl gt ↦ absurd (h (first_greater x y xs ys gt))
        | inr le ↦ let same : x ≡ y = omega (arith, ge, le) in inr (same, upto xs ys (omega (arith, long)) (λ e. h (first_same x y xs ys same ∙ e)))
      ]
    ]

pub least_or_same : (xs ys : List ℕ) → Upto xs ys → (xs ≡ ys) ⊎ (slice_cmp nat_cmp xs ys ≡ Less)
least_or_same [] [] h = inl refl
least_or_same [] (y ∷ ys) h = absurd (omega (arith, h))
least_or_same (x ∷ xs) [] h = absurd h
least_or_same (x ∷ xs) (y ∷ ys) (inl (lt, long)) = inr (first_less x y xs ys lt)
least_or_same (x ∷ xs) (y ∷ ys) (inr (same, rest)) =
    elim (least_or_same xs ys rest) [
      | inl e ↦ inl (ap₂ (λ (a : ℕ) (l : List ℕ). a ∷ l) same e)
      | inr less ↦ inr (first_same x y xs ys same ∙ less)
    ]

pub itself : (xs ys : List ℕ) → xs ≡ ys → Upto xs ys
itself xs ys e = subst (Upto xs) e (by xs)
  where
    by : (xs : List ℕ) → Upto xs xs
    by [] = refl
    by (x ∷ xs) = inr (refl, by xs)

upto_long : (xs ys : List ℕ) → Upto xs ys → length xs ≡ length ys
upto_long [] ys h = sym h
upto_long (x ∷ xs) [] h = absurd h
upto_long (x ∷ xs) (y ∷ ys) (inl (lt, long)) = omega (arith, long)
upto_long (x ∷ xs) (y ∷ ys) (inr (same, rest)) = let long = upto_long xs ys rest in omega (arith, long)

pub then_upto : (xs ys zs : List ℕ) → Upto xs ys → Upto ys zs → Upto xs zs
then_upto [] ys zs h g = let a : length ys ≡ 0 = h in let b = upto_long ys zs g in sym b ∙ a
then_upto (x ∷ xs) [] zs h g = absurd h
then_upto (x ∷ xs) (y ∷ ys) [] h g = absurd g
then_upto (x ∷ xs) (y ∷ ys) (z ∷ zs) (inl (lt, long)) (inl (lt', long')) = inl (omega (arith, lt, lt'), long ∙ long')
then_upto (x ∷ xs) (y ∷ ys) (z ∷ zs) (inl (lt, long)) (inr (same, rest)) = inl (omega (arith, lt, same), long ∙ upto_long ys zs rest)
then_upto (x ∷ xs) (y ∷ ys) (z ∷ zs) (inr (same, rest)) (inl (lt, long)) = inl (omega (arith, lt, same), upto_long xs ys rest ∙ long)
then_upto (x ∷ xs) (y ∷ ys) (z ∷ zs) (inr (same, rest)) (inr (same', rest')) = inr (same ∙ same', then_upto xs ys zs rest rest')

pub from_answer : (xs ys : List ℕ) → length xs ≡ length ys → (xs ≡ ys) ⊎ (slice_cmp nat_cmp xs ys ≡ Less) → Upto xs ys
from_answer xs ys long (inl e) = itself xs ys e
from_answer xs ys long (inr less) = upto xs ys long (λ e. let clash : Less ≡ Greater = sym less ∙ e in true≢false (sym (ap is_gt clash)))

-- two of a first part and a later part
pub both_parts : (cs ds xs ys : List ℕ) → Upto cs ds → Upto xs ys → Upto (cs ++ xs) (ds ++ ys)
both_parts [] [] xs ys h g = g
both_parts [] (b ∷ ds) xs ys h g = absurd (omega (arith, h))
both_parts (a ∷ cs) [] xs ys h g = absurd h
both_parts (a ∷ cs) (b ∷ ds) xs ys (inl (lt, long)) g = inl (lt, longer cs ds xs ys long (upto_long xs ys g))
  where
    longer : (cs ds xs ys : List ℕ) → length cs ≡ length ds → length xs ≡ length ys → length (cs ++ xs) ≡ length (ds ++ ys)
    longer [] [] xs ys h g = g
    longer [] (b ∷ ds) xs ys h g = absurd (omega (arith, h))
    longer (a ∷ cs) [] xs ys h g = absurd (omega (arith, h))
    longer (a ∷ cs) (b ∷ ds) xs ys h g = let rest = longer cs ds xs ys (omega (arith, h)) g in omega (arith, rest)
both_parts (a ∷ cs) (b ∷ ds) xs ys (inr (same, rest)) g = inr (same, both_parts cs ds xs ys rest g)

-- the first numbers of both
pub first_numbers : (f g : ℕ → ℕ) (start few n : ℕ) → few ≤ n → Upto (map f (range_with_len start n)) (map g (range_with_len start n)) → Upto (map f (range_with_len start few)) (map g (range_with_len start few))
first_numbers f g start zero n within h = refl
first_numbers f g start (suc few) zero within h = absurd (omega (arith, within))
first_numbers f g start (suc few) (suc n) within (inl (lt, long)) = inl (lt, lengths f g (start + 1) few)
  where
    lengths : (f g : ℕ → ℕ) (start n : ℕ) → length (map f (range_with_len start n)) ≡ length (map g (range_with_len start n))
    lengths f g start zero = refl
    lengths f g start (suc n) = let rest = lengths f g (start + 1) n in omega (arith, rest)
first_numbers f g start (suc few) (suc n) within (inr (same, rest)) = inr (same, first_numbers f g (start + 1) few n (omega (arith, within)) rest)

pub not_above : (xs : List ℕ) → slice_cmp nat_cmp xs xs ≢ Greater
not_above [] e = true≢false (sym (ap is_gt e))
not_above (x ∷ xs) e = not_above xs (sym (first_same x x xs xs refl) ∙ e)
