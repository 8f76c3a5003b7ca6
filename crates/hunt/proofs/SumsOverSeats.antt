-- Counts in a list, and sums over the views of all seats.
use Rattle.std.proofs.Common.{◌≡◌, ◌≢◌, ℕ, zero, suc, ◌+◌, ◌<◌, ◌≤◌, ◌⊎◌, List, [], ◌∷◌, ◌++◌, set, sym, refl, ap, ◌∙◌, subst, inl, inr, ⊎_elim, arith, add-zero}
use Rattle.std.proofs.lemmas.Bool.Decides.{nat_tests}
use mathlib.Core.Option.{some, some-injective, some-ne-none}
use mathlib.Core.Logic.{dite}
use native.Mathlib.Decide.{dec_le, ℕ_discrete}
use lib.ListN.{get_elem?}
use Rattle.atomic_table.proofs.Lists.{at_set, at_snoc}
use Rattle.hunt.specs.declared.rule.SeatView.{SeatView}
use Rattle.hunt.specs.Counts.{one, times, Has, beyond, IsRising}
use Rattle.hunt.specs.Rule.{total}

pub one-same : (x y : ℕ) → x ≡ y → one x y ≡ 1
one-same x y e = grind (arith, nat_tests)

pub one-other : (x y : ℕ) → x ≢ y → one x y ≡ 0
one-other x y e = grind (arith, nat_tests)

pub times-append : (x : ℕ) (xs ys : List ℕ) → times x (xs ++ ys) ≡ times x xs + times x ys
times-append x [] ys = omega arith
times-append x (z ∷ zs) ys = let h = times-append x zs ys in omega arith

pub times-snoc : (x y : ℕ) (xs : List ℕ) → times x (xs ++ y ∷ []) ≡ times x xs + one x y
times-snoc x y xs = times-append x xs (y ∷ []) ∙ ap (λ (n : ℕ). times x xs + n) (add-zero (one x y))

-- what stands in a list and one more
pub has_snoc : (x y : ℕ) (xs : List ℕ) → Has (xs ++ y ∷ []) x → Has xs x ⊎ (x ≡ y)
has_snoc x y xs h = dite (ℕ_discrete x y) (λ e. inr e) (λ ne. inl (let a = times-snoc x y xs in let b = one-other x y ne in omega arith))

pub has_append : (x : ℕ) (xs ys : List ℕ) → Has (xs ++ ys) x → Has xs x ⊎ Has ys x
has_append x xs ys h = let a = times-append x xs ys in dite (dec_le (times x xs) 0) (λ z. inr (omega arith)) (λ p. inl (omega arith))

pub has_left : (x : ℕ) (xs ys : List ℕ) → Has xs x → Has (xs ++ ys) x
has_left x xs ys h = let a = times-append x xs ys in omega arith

pub has_right : (x : ℕ) (xs ys : List ℕ) → Has ys x → Has (xs ++ ys) x
has_right x xs ys h = let a = times-append x xs ys in omega arith

pub has_last : (x : ℕ) (xs : List ℕ) → Has (xs ++ x ∷ []) x
has_last x xs = let a = times-snoc x x xs in let b = one-same x x refl in omega arith

pub beyond-append : (n : ℕ) (xs ys : List ℕ) → beyond n (xs ++ ys) ≡ beyond n xs + beyond n ys
beyond-append n [] ys = omega arith
beyond-append n (z ∷ zs) ys = let h = beyond-append n zs ys in omega arith

pub beyond-low : (n x : ℕ) (xs : List ℕ) → x < n → beyond n (xs ++ x ∷ []) ≡ beyond n xs
beyond-low n x xs h = let a = beyond-append n xs (x ∷ []) in let b : beyond n (x ∷ []) ≡ 0 = grind (arith, nat_tests) in omega arith

pub beyond-high : (n x : ℕ) (xs : List ℕ) → n ≤ x → beyond n (xs ++ x ∷ []) ≡ beyond n xs + 1
beyond-high n x xs h = let a = beyond-append n xs (x ∷ []) in let b : beyond n (x ∷ []) ≡ 1 = grind (arith, nat_tests) in omega arith

pub rising_snoc : (z : ℕ) (xs : List ℕ) → IsRising xs → ((x : ℕ) → Has xs x → x < z) → IsRising (xs ++ z ∷ [])
rising_snoc z [] r h = ((λ x a. absurd (omega arith)), tt)
rising_snoc z (y ∷ ys) r h =
    let below : y < z = h y (let a = one-same y y refl in omega arith) in
    ((λ x a. ⊎_elim (r.0 x) (λ (e : x ≡ z). omega arith) (has_snoc x z ys a)), rising_snoc z ys r.1 (λ x a. h x (omega arith)))

-- the total after a change of one view
pub total_set : (f : SeatView → ℕ) (views : List SeatView) (id : ℕ) (v w : SeatView) → get_elem? views id ≡ some v → total f (set views id w) + f v ≡ total f views + f w
total_set f [] id v w e = absurd (some-ne-none v (sym e))
total_set f (x ∷ xs) zero v w e = let a : f x ≡ f v = ap f (some-injective x v e) in omega arith
total_set f (x ∷ xs) (suc id) v w e = let h = total_set f xs id v w e in omega arith

pub total_snoc : (f : SeatView → ℕ) (views : List SeatView) (w : SeatView) → total f (views ++ w ∷ []) ≡ total f views + f w
total_snoc f [] w = omega arith
total_snoc f (x ∷ xs) w = let h = total_snoc f xs w in omega arith

-- one view's part of the total
pub part_of_total : (f : SeatView → ℕ) (views : List SeatView) (id : ℕ) (v : SeatView) → get_elem? views id ≡ some v → f v ≤ total f views
part_of_total f [] id v e = absurd (some-ne-none v (sym e))
part_of_total f (x ∷ xs) zero v e = let a : f x ≡ f v = ap f (some-injective x v e) in omega arith
part_of_total f (x ∷ xs) (suc id) v e = let h = part_of_total f xs id v e in omega arith

pub total_mono : (f g : SeatView → ℕ) (views : List SeatView) → ((id : ℕ) (v : SeatView) → get_elem? views id ≡ some v → f v ≤ g v) → total f views ≤ total g views
total_mono f g [] h = omega arith
total_mono f g (x ∷ xs) h = let a = h 0 x refl in let b = total_mono f g xs (λ id v e. h (suc id) v e) in omega arith

-- a total above 0 has a view that counts
pub total_some : (f : SeatView → ℕ) (views : List SeatView) → 0 < total f views → (id : ℕ) × (v : SeatView) × (get_elem? views id ≡ some v) × (0 < f v)
total_some f [] h = absurd (omega arith)
total_some f (x ∷ xs) h = elim (dec_le (f x) 0) [
  | yes z ↦ let t = total_some f xs (omega arith) in (suc t.0, t.1, t.2, t.3)
  | no p ↦ (0, x, refl, omega arith)
]

-- where each view with no part counts 0, and none has a part, the total is 0
pub total_none : (f p : SeatView → ℕ) (views : List SeatView) → total p views ≡ 0 → ((id : ℕ) (v : SeatView) → get_elem? views id ≡ some v → p v ≡ 0 → f v ≡ 0) → total f views ≡ 0
total_none f p [] z h = refl
total_none f p (x ∷ xs) z h = let a = h 0 x refl (omega arith) in let b = total_none f p xs (omega arith) (λ id v e. h (suc id) v e) in omega arith

-- where one view has every part, the total is that view's
pub total_whole : (f p : SeatView → ℕ) (views : List SeatView) (id : ℕ) (v : SeatView) → get_elem? views id ≡ some v → total p views ≡ p v
    → ((j : ℕ) (u : SeatView) → get_elem? views j ≡ some u → p u ≡ 0 → f u ≡ 0) → total f views ≡ f v
total_whole f p [] id v e z h = absurd (some-ne-none v (sym e))
total_whole f p (x ∷ xs) zero v e z h = let a : p x ≡ p v = ap p (some-injective x v e) in let b : f x ≡ f v = ap f (some-injective x v e) in
    let c = total_none f p xs (omega arith) (λ j u. h (suc j) u) in omega arith
total_whole f p (x ∷ xs) (suc id) v e z h = let a = part_of_total p xs id v e in let b = h 0 x refl (omega arith) in
    let c = total_whole f p xs id v e (omega arith) (λ j u. h (suc j) u) in omega arith

pub each_set : (F : SeatView → Type 0) (views : List SeatView) (id : ℕ) (w : SeatView) → F w → ((j : ℕ) (u : SeatView) → get_elem? views j ≡ some u → F u)
    → (j : ℕ) (u : SeatView) → get_elem? (set views id w) j ≡ some u → F u
each_set F views id w mine old j u e = ⊎_elim (λ (t : (j ≡ id) × (w ≡ u)). subst F t.1 mine) (λ (t : (j ≢ id) × (get_elem? views j ≡ some u)). old j u t.1) (at_set views id j w u e)

pub each_snoc : (F : SeatView → Type 0) (views : List SeatView) (w : SeatView) → F w → ((j : ℕ) (u : SeatView) → get_elem? views j ≡ some u → F u)
    → (j : ℕ) (u : SeatView) → get_elem? (views ++ w ∷ []) j ≡ some u → F u
each_snoc F views w mine old j u e = ⊎_elim (old j u) (λ (t : w ≡ u). subst F t mine) (at_snoc views w u j e)
