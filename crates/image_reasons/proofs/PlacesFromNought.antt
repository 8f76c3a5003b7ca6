-- What is gathered of the places from 0 on.
use Rattle.std.proofs.Common.{◌≡◌, ℕ, zero, suc, ◌+◌, Option, List, [], ◌∷◌, ◌++◌, sym, ap, ◌∙◌, append_assoc, arith}
use Rattle.std.specs.List.{cons_option, filter_map, range_with_len}
use Rattle.std.proofs.lemmas.List.Elements.{filter_map-append}

one_more : (a n k : ℕ) → a + n ≡ k → range_with_len a (n + 1) ≡ range_with_len a n ++ k ∷ []
one_more a zero k e = ap (λ (i : ℕ). i ∷ []) (omega (arith, e))
one_more a (suc n) k e =
    let longer : suc n + 1 ≡ suc (n + 1) = omega arith in
    ap (λ (i : ℕ). range_with_len a i) longer ∙ ap (λ (ks : List ℕ). a ∷ ks) (one_more (a + 1) n k (omega (arith, e)))

gathered_more : {X : Type 0} (h : ℕ → Option X) (n : ℕ) → filter_map h (range_with_len 0 (n + 1)) ≡ filter_map h (range_with_len 0 n) ++ cons_option (h n) []
gathered_more h n = ap (λ (ks : List ℕ). filter_map h ks) (one_more 0 n n (omega arith)) ∙ filter_map-append h (range_with_len 0 n) (n ∷ [])

module _ {X : Type 0} where
  pub gathered_behind : (h : ℕ → Option X) (n : ℕ) (old : List X) → (old ++ filter_map h (range_with_len 0 n)) ++ cons_option (h n) [] ≡ old ++ filter_map h (range_with_len 0 (n + 1))
  gathered_behind h n old = append_assoc old (filter_map h (range_with_len 0 n)) (cons_option (h n) []) ∙ ap (λ (xs : List X). old ++ xs) (sym (gathered_more h n))
