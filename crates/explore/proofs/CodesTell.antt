-- Lists of numbers with the same bytes are the same.
use Rattle.std.proofs.Common.{◌≡◌, ℕ, zero, suc, ◌/◌, ◌%◌, ◌<◌, inl, inr, List, [], ◌∷◌, ◌++◌, refl, sym, ap, ◌∙◌, arith, append_assoc}
use Rattle.std.specs.Prelude.{nat_lt}
use Rattle.std.proofs.lemmas.Bool.{cases_Bool, ltb-true}
use Rattle.explore.specs.Codes.{code_of, coded, low_bytes}

pub coded_append : (xs ys : List ℕ) → coded (xs ++ ys) ≡ coded xs ++ coded ys
coded_append [] ys = refl
coded_append (x ∷ xs) ys = ap (λ (bytes : List ℕ). code_of x ++ bytes) (coded_append xs ys) ∙ sym (append_assoc (code_of x) (coded xs) (coded ys))

pub first_same : (a b : ℕ) (xs ys : List ℕ) → a ∷ xs ≡ b ∷ ys → a ≡ b
first_same a b xs ys e = cc

pub rest_same : (a b : ℕ) (xs ys : List ℕ) → a ∷ xs ≡ b ∷ ys → xs ≡ ys
rest_same a b xs ys e = cc

-- a low byte and all above it are the number
parts_tell : (a b : ℕ) → a % 256 ≡ b % 256 → a / 256 ≡ b / 256 → a ≡ b
parts_tell a b low high = omega (arith, low, high)

low_bytes_tell : (k a b : ℕ) (xs ys : List ℕ) → low_bytes k a ++ xs ≡ low_bytes k b ++ ys → (a ≡ b) × (xs ≡ ys)
low_bytes_tell zero a b xs ys e = (first_same a b xs ys e, rest_same a b xs ys e)
low_bytes_tell (suc k) a b xs ys e =
    let rest = low_bytes_tell k (a / 256) (b / 256) xs ys (rest_same _ _ _ _ e) in
    (parts_tell a b (first_same _ _ _ _ e) rest.0, rest.1)

-- which of the three forms a code has
data Form (n : ℕ) : Type 0 where
  one : n < 254 → code_of n ≡ n ∷ [] → Form n
  two : code_of n ≡ 254 ∷ low_bytes 1 n → Form n
  eight : code_of n ≡ 255 ∷ low_bytes 7 n → Form n

form_of : (n : ℕ) → Form n
unfolding code_of
form_of n =
    elim (cases_Bool (nat_lt n 254)) [
      | inl small ↦ one (ltb-true n 254 small) (rw small refl)
      | inr not_small ↦ elim (cases_Bool (nat_lt n 65536)) [
        | inl middle ↦ two (rw not_small (rw middle refl))
        | inr large ↦ eight (rw not_small (rw large refl))
      ]
    ]

-- so does a code, whatever follows
pub code_tells : (a b : ℕ) (xs ys : List ℕ) → code_of a ++ xs ≡ code_of b ++ ys → (a ≡ b) × (xs ≡ ys)
code_tells a b xs ys e = by (form_of a) (form_of b)
  where
    by_codes : {A : Type 0} (c d : List ℕ) → code_of a ≡ c → code_of b ≡ d → (c ++ xs ≡ d ++ ys → A) → A
    by_codes c d is same tells = tells (sym (ap (λ (bytes : List ℕ). bytes ++ xs) is) ∙ e ∙ ap (λ (bytes : List ℕ). bytes ++ ys) same)

    by : Form a → Form b → (a ≡ b) × (xs ≡ ys)
    by (one less is) (one also same) = by_codes _ _ is same (λ f. (first_same a b xs ys f, rest_same a b xs ys f))
    by (one less is) (two same) = by_codes _ _ is same (λ f. let first = first_same a 254 _ _ f in absurd (omega (arith, less, first)))
    by (one less is) (eight same) = by_codes _ _ is same (λ f. let first = first_same a 255 _ _ f in absurd (omega (arith, less, first)))
    by (two is) (one less same) = by_codes _ _ is same (λ f. let first = first_same 254 b _ _ f in absurd (omega (arith, less, first)))
    by (two is) (two same) = by_codes _ _ is same (λ f. low_bytes_tell 1 a b xs ys (rest_same 254 254 _ _ f))
    by (two is) (eight same) = by_codes _ _ is same (λ f. let first = first_same 254 255 _ _ f in absurd (omega (arith, first)))
    by (eight is) (one less same) = by_codes _ _ is same (λ f. let first = first_same 255 b _ _ f in absurd (omega (arith, less, first)))
    by (eight is) (two same) = by_codes _ _ is same (λ f. let first = first_same 255 254 _ _ f in absurd (omega (arith, first)))
    by (eight is) (eight same) = by_codes _ _ is same (λ f. low_bytes_tell 7 a b xs ys (rest_same 255 255 _ _ f))

no_code : (n : ℕ) (xs : List ℕ) {A : Type 0} → [] ≡ code_of n ++ xs → A
no_code n xs {A} e = by (form_of n)
  where
    by : Form n → A
    by (one less is) = let none : [] ≡ n ∷ xs = e ∙ ap (λ (bytes : List ℕ). bytes ++ xs) is in absurd (cc)
    by (two is) = let none : [] ≡ 254 ∷ (low_bytes 1 n ++ xs) = e ∙ ap (λ (bytes : List ℕ). bytes ++ xs) is in absurd (cc)
    by (eight is) = let none : [] ≡ 255 ∷ (low_bytes 7 n ++ xs) = e ∙ ap (λ (bytes : List ℕ). bytes ++ xs) is in absurd (cc)

pub coded_tells : (xs ys : List ℕ) → coded xs ≡ coded ys → xs ≡ ys
coded_tells [] [] e = refl
coded_tells [] (y ∷ ys) e = no_code y (coded ys) e
coded_tells (x ∷ xs) [] e = no_code x (coded xs) (sym e)
coded_tells (x ∷ xs) (y ∷ ys) e =
    let both = code_tells x y (coded xs) (coded ys) e in
    let rest = coded_tells xs ys both.1 in
    λ k. both.0 k ∷ rest k
