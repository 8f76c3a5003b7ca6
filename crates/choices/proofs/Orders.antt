-- The order of choices.
use Rattle.std.proofs.Common.{◌≡◌, ◌⊎◌, ℕ, ◌<◌, ◌≤◌, Bool, true, false, ◌&&◌, List, [], ◌∷◌, refl, sym, ◌∙◌, inl, inr, arith}
use Rattle.std.proofs.lemmas.Bool.{and_from, and_parts, eqb-true, eq-eqb, false_from_ne_true, false≢true, ltb-true, lt-ltb, or_cases, or_left, or_right}
use Rattle.std.specs.Prelude.{◌==◌, nat_lt}
use Rattle.choices.specs.Choices.{comes_before, cost_of, count_of, is_earlier, is_smaller}

earlier_chain : (a b c : List Bool) → is_earlier a b ≡ true → is_earlier b c ≡ true → is_earlier a c ≡ true
earlier_chain (true ∷ a) (true ∷ b) (true ∷ c) p q = earlier_chain a b c p q
earlier_chain (true ∷ a) (true ∷ b) (false ∷ c) p q = refl
earlier_chain (true ∷ a) (true ∷ b) [] p q = absurd (false≢true q)
earlier_chain (true ∷ a) (false ∷ b) (true ∷ c) p q = absurd (false≢true q)
earlier_chain (true ∷ a) (false ∷ b) (false ∷ c) p q = refl
earlier_chain (true ∷ a) (false ∷ b) [] p q = absurd (false≢true q)
earlier_chain (true ∷ a) [] c p q = absurd (false≢true p)
earlier_chain (false ∷ a) (true ∷ b) c p q = absurd (false≢true p)
earlier_chain (false ∷ a) (false ∷ b) (true ∷ c) p q = absurd (false≢true q)
earlier_chain (false ∷ a) (false ∷ b) (false ∷ c) p q = earlier_chain a b c p q
earlier_chain (false ∷ a) (false ∷ b) [] p q = absurd (false≢true q)
earlier_chain (false ∷ a) [] c p q = absurd (false≢true p)
earlier_chain [] b c p q = absurd (false≢true p)

not_earlier_itself : (a : List Bool) → is_earlier a a ≡ false
not_earlier_itself [] = refl
not_earlier_itself (true ∷ a) = not_earlier_itself a
not_earlier_itself (false ∷ a) = not_earlier_itself a

module _ (costs : List ℕ) where
  abbrev cost : List Bool → ℕ
  cost choice = cost_of costs choice

  abbrev count : List Bool → ℕ
  count choice = count_of costs choice

  abbrev Smaller : List Bool → List Bool → Type 0
  Smaller a b = (count a < count b) ⊎ ((count a ≡ count b) × (is_earlier a b ≡ true))

  abbrev Before : List Bool → List Bool → Type 0
  Before a b = (cost a < cost b) ⊎ ((cost a ≡ cost b) × Smaller a b)

  smaller : (a b : List Bool) → is_smaller (count a) (count b) a b ≡ true → Smaller a b
  smaller a b is = elim (or_cases (nat_lt (count a) (count b)) ((count a == count b) && is_earlier a b) is) [
    | inl less ↦ inl (ltb-true (count a) (count b) less)
    | inr other ↦ let both = and_parts (count a == count b) (is_earlier a b) other in inr (eqb-true (count a) (count b) both.0, both.1)
  ]

  pub before : (a b : List Bool) → comes_before costs a b ≡ true → Before a b
  before a b is = elim (or_cases (nat_lt (cost a) (cost b)) ((cost a == cost b) && is_smaller (count a) (count b) a b) is) [
    | inl less ↦ inl (ltb-true (cost a) (cost b) less)
    | inr other ↦
        let both = and_parts (cost a == cost b) (is_smaller (count a) (count b) a b) other in
        inr (eqb-true (cost a) (cost b) both.0, smaller a b both.1)
  ]

  is_smaller_if : (a b : List Bool) → Smaller a b → is_smaller (count a) (count b) a b ≡ true
  is_smaller_if a b (inl less) = or_left (nat_lt (count a) (count b)) ((count a == count b) && is_earlier a b) (lt-ltb (count a) (count b) less)
  is_smaller_if a b (inr (same, earlier)) =
      or_right (nat_lt (count a) (count b)) ((count a == count b) && is_earlier a b)
      (and_from (count a == count b) (is_earlier a b) (eq-eqb (count a) (count b) same) earlier)

  pub before_if : (a b : List Bool) → Before a b → comes_before costs a b ≡ true
  before_if a b (inl less) =
      or_left (nat_lt (cost a) (cost b)) ((cost a == cost b) && is_smaller (count a) (count b) a b) (lt-ltb (cost a) (cost b) less)
  before_if a b (inr (same, smaller)) =
      or_right (nat_lt (cost a) (cost b)) ((cost a == cost b) && is_smaller (count a) (count b) a b)
      (and_from (cost a == cost b) (is_smaller (count a) (count b) a b) (eq-eqb (cost a) (cost b) same) (is_smaller_if a b smaller))

  smaller_chain : (a b c : List Bool) → Smaller a b → Smaller b c → Smaller a c
  smaller_chain a b c (inl p) (inl q) = inl (omega (arith, p, q))
  smaller_chain a b c (inl p) (inr (e, q)) = inl (omega (arith, p, e))
  smaller_chain a b c (inr (e, p)) (inl q) = inl (omega (arith, e, q))
  smaller_chain a b c (inr (e, p)) (inr (f, q)) = inr (e ∙ f, earlier_chain a b c p q)

  chain : (a b c : List Bool) → Before a b → Before b c → Before a c
  chain a b c (inl p) (inl q) = inl (omega (arith, p, q))
  chain a b c (inl p) (inr (e, q)) = inl (omega (arith, p, e))
  chain a b c (inr (e, p)) (inl q) = inl (omega (arith, e, q))
  chain a b c (inr (e, p)) (inr (f, q)) = inr (e ∙ f, smaller_chain a b c p q)

  not_itself : (a : List Bool) → Before a a → ⊥
  not_itself a (inl less) = omega (arith, less)
  not_itself a (inr (same, inl less)) = omega (arith, less)
  not_itself a (inr (same, inr (also, earlier))) = false≢true (sym (not_earlier_itself a) ∙ earlier)

  -- No choice comes before itself.
  pub not_before_itself : (a : List Bool) → comes_before costs a a ≡ false
  not_before_itself a = false_from_ne_true (comes_before costs a a) (λ is. not_itself a (before a a is))

  -- What does not come before a choice does not come before one that comes before it.
  pub still_not_before : (a b c : List Bool) → comes_before costs a c ≡ false → comes_before costs b c ≡ true → comes_before costs a b ≡ false
  still_not_before a b c not_c less =
      false_from_ne_true (comes_before costs a b) (λ is. false≢true (sym not_c ∙ before_if a c (chain a b c (before a b is) (before b c less))))

  -- A choice that comes before another costs no more.
  pub no_dearer : (a b : List Bool) → comes_before costs a b ≡ true → cost a ≤ cost b
  no_dearer a b is = elim (before a b is) [ inl less ↦ omega (arith, less) | inr same ↦ omega (arith, same.0) ]

  -- One that costs less comes before it.
  pub cheaper : (a b : List Bool) → cost a < cost b → comes_before costs a b ≡ true
  cheaper a b less = before_if a b (inl less)
