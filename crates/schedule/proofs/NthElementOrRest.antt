-- Element n of a list, or what is left of n behind it.
use Rattle.std.proofs.Common.{◌≡◌, ℕ, zero, suc, ◌+◌, ◌-◌, ◌<◌, ◌≤◌, Some, None, Ok, Err, List, [], ◌∷◌, ◌++◌, length, take, drop, map, refl, ap, arith}
use Rattle.std.specs.Prelude.{slice_get}
use Rattle.schedule.specs.Masks.{nth_or_rest}

module _ {A : Type 0} where
  pub past_end : (xs : List A) (n : ℕ) → length xs ≤ n → nth_or_rest xs n ≡ Err (n - length xs)
  past_end [] n past = rw minus_none refl
    where
      minus_none : n - 0 ≡ n
      minus_none = omega arith
  past_end (x ∷ xs) zero past = absurd (omega (arith, past))
  past_end (x ∷ xs) (suc n) past =
      let less : suc n - suc (length xs) ≡ n - length xs = omega arith in
      rw less (past_end xs n (omega (arith, past)))

  pub at_front : (xs behind : List A) (n : ℕ) (x : A) → drop n xs ≡ x ∷ behind → nth_or_rest xs n ≡ Ok x
  at_front [] behind zero x is = absurd (cc)
  at_front [] behind (suc n) x is = absurd (cc)
  at_front (y ∷ xs) behind zero x is = let same : y ≡ x = cc in rw same refl
  at_front (y ∷ xs) behind (suc n) x is = at_front xs behind n x is

  pub next_front : (xs behind : List A) (n : ℕ) (x : A) → drop n xs ≡ x ∷ behind → drop (n + 1) xs ≡ behind
  next_front [] behind zero x is = absurd (cc)
  next_front [] behind (suc n) x is = absurd (cc)
  next_front (y ∷ xs) behind zero x is = cc
  next_front (y ∷ xs) behind (suc n) x is = let one : suc n + 1 ≡ suc (n + 1) = omega arith in rw one (next_front xs behind n x is)

  pub none_there : (xs : List A) (n : ℕ) → n < length xs → slice_get xs n ≡ None → ⊥
  none_there [] n low is = absurd (omega (arith, low))
  none_there (y ∷ xs) zero low is = cc
  none_there (y ∷ xs) (suc n) low is = none_there xs n (omega (arith, low)) is

  pub one_more_taken : (xs : List A) (n : ℕ) (x : A) → slice_get xs n ≡ Some x → take (n + 1) xs ≡ take n xs ++ x ∷ []
  one_more_taken [] n x is = absurd (cc)
  one_more_taken (y ∷ xs) zero x is = let same : y ≡ x = cc in rw same refl
  one_more_taken (y ∷ xs) (suc n) x is = let one : suc n + 1 ≡ suc (n + 1) = omega arith in rw one (ap (λ l. y ∷ l) (one_more_taken xs n x is))

  pub found : (xs : List A) (n : ℕ) (x : A) → nth_or_rest xs n ≡ Ok x → slice_get xs n ≡ Some x
  found [] n x is = absurd (cc)
  found (y ∷ xs) zero x is = let same : y ≡ x = cc in rw same refl
  found (y ∷ xs) (suc n) x is = found xs n x is

  pub passed : (xs : List A) (n rest : ℕ) → nth_or_rest xs n ≡ Err rest → slice_get xs n ≡ None
  passed [] n rest is = refl
  passed (y ∷ xs) zero rest is = absurd (cc)
  passed (y ∷ xs) (suc n) rest is = passed xs n rest is

  pub in_first : (xs ys : List A) (n : ℕ) (x : A) → nth_or_rest xs n ≡ Ok x → nth_or_rest (xs ++ ys) n ≡ Ok x
  in_first [] ys n x is = absurd (cc)
  in_first (y ∷ xs) ys zero x is = is
  in_first (y ∷ xs) ys (suc n) x is = in_first xs ys n x is

  pub in_second : (xs ys : List A) (n rest : ℕ) → nth_or_rest xs n ≡ Err rest → nth_or_rest (xs ++ ys) n ≡ nth_or_rest ys rest
  in_second [] ys n rest is = let same : n ≡ rest = cc in rw same refl
  in_second (y ∷ xs) ys zero rest is = absurd (cc)
  in_second (y ∷ xs) ys (suc n) rest is = in_second xs ys n rest is

module _ {A B : Type 0} (f : A → B) where
  pub mapped_found : (xs : List A) (n : ℕ) (x : A) → nth_or_rest xs n ≡ Ok x → nth_or_rest (map f xs) n ≡ Ok (f x)
  mapped_found [] n x is = absurd (cc)
  mapped_found (y ∷ xs) zero x is = let same : y ≡ x = cc in rw same refl
  mapped_found (y ∷ xs) (suc n) x is = mapped_found xs n x is

  pub mapped_passed : (xs : List A) (n rest : ℕ) → nth_or_rest xs n ≡ Err rest → nth_or_rest (map f xs) n ≡ Err rest
  mapped_passed [] n rest is = let same : n ≡ rest = cc in rw same refl
  mapped_passed (y ∷ xs) zero rest is = absurd (cc)
  mapped_passed (y ∷ xs) (suc n) rest is = mapped_passed xs n rest is
