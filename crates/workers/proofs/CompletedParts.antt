-- How many of the counts from 1 on complete a part.
use Rattle.std.proofs.Common.{◌≡◌, ℕ, zero, suc, ◌+◌, ◌-◌, ◌*◌, ◌<◌, ◌≤◌, min, Bool, true, false, cond, ◌&&◌, nat_lt, nat_le, count_by, [], ◌∷◌, ◌++◌, refl, sym, ap, subst, map-id, ◌∙◌, arith}
use Rattle.std.specs.List.{range_with_len}
use Rattle.std.proofs.lemmas.Bool.{leb-false, ltb-false, ltb-true}
use Rattle.std.proofs.lemmas.Nat.{mul-le, div_below, le-div, div-add-mod', mod_below}
use Rattle.std.proofs.lemmas.List.Sums.{sum_by_push}
use Rattle.std.proofs.lemmas.List.FromFn.{map-range_with_len_more}
use Rattle.workers.specs.Progress.{parts, parts_done, completes_part, completed_parts}

-- so many whole parts, and less than one more
within : (n all : ℕ) → 0 < all → (parts_done n all * all ≤ 16 * n) × (16 * n < (parts_done n all + 1) * all)
within n all some = let split = div-add-mod' (16 * n) all in let rest = mod_below (16 * n) all some in (omega (arith, split), omega (arith, split, rest))

-- parts of at least one number each: one more number completes one at most
slow : (n all : ℕ) → 16 ≤ all → (parts_done (n + 1) all < parts_done n all + 2) × (parts_done n all ≤ n)
slow n all many =
    let q = parts_done n all in
    let some : 0 < all = omega arith in
    let so_far = within n all some in
    let wide = mul-le n 16 n all (omega arith) many in
    let below = div_below (16 * n) all (n + 1) some (omega (arith, wide)) in
    (div_below (16 * (n + 1)) all (q + 2) some (omega (arith, so_far.1)), omega (arith, below))

-- parts of one number at most: each number more completes one
fast : (n all : ℕ) → 0 < all → all ≤ 16 → (parts_done n all < parts_done (n + 1) all) × (n ≤ parts_done n all)
fast n all some few =
    let q = parts_done n all in
    let so_far = within n all some in
    let narrow = mul-le n all n 16 (omega arith) few in
    (omega (arith, le-div (q + 1) (16 * (n + 1)) all some (omega (arith, so_far.0))), le-div n (16 * n) all some (omega (arith, narrow)))

rises : (n all : ℕ) → 0 < all → parts_done n all ≤ parts_done (n + 1) all
rises n all some = le-div (parts_done n all) (16 * (n + 1)) all some (omega (arith, (within n all some).0))

whole : (all : ℕ) → 0 < all → parts_done all all ≡ 16
whole all some = omega (arith, le-div 16 (16 * all) all some (omega arith), div_below (16 * all) all 17 some (omega arith))

-- what one more number adds to the count
added : (n all before after : ℕ) (b c : Bool) → n + 1 ≤ all → before ≡ parts_done n all → after ≡ parts_done (n + 1) all → nat_le (n + 1) all ≡ b → nat_lt before after ≡ c
    → min n before + cond (b && c) 1 0 ≡ min (n + 1) after
added n all before after false c le was is e f = absurd (omega (arith, leb-false (n + 1) all e))
added n all before after true c le was is e f = by (nat_lt all 16) refl c f
  where
    by : (few : Bool) → nat_lt all 16 ≡ few → (d : Bool) → nat_lt before after ≡ d → min n before + cond d 1 0 ≡ min (n + 1) after
    by true m true g = let s = fast n all (omega arith) (omega (arith, ltb-true all 16 m)) in omega (arith, s.0, s.1, was, is)
    by true m false g = let s = fast n all (omega arith) (omega (arith, ltb-true all 16 m)) in absurd (omega (arith, s.0, was, is, ltb-false before after g))
    by false m true g = let s = slow n all (ltb-false all 16 m) in omega (arith, s.0, s.1, was, is, ltb-true before after g)
    by false m false g = let s = slow n all (ltb-false all 16 m) in let r = rises n all (omega arith) in omega (arith, s.1, r, was, is, ltb-false before after g)

abbrev is_completed : ℕ → ℕ → ℕ
is_completed all done = cond (completes_part done all) 1 0

one_more : (n all : ℕ) → n + 1 ≤ all → min n (parts_done n all) + is_completed all (n + 1) ≡ min (n + 1) (parts_done (n + 1) all)
one_more n all le =
    let one : n + 1 - 1 ≡ n = omega arith in
    let back = ap (λ k. parts_done k all) one in
    ap (λ k. min n k + is_completed all (n + 1)) (sym back) ∙ added n all (parts_done (n + 1 - 1) all) (parts_done (n + 1) all) _ _ le back refl refl refl

one_longer : (n : ℕ) → range_with_len 1 (n + 1) ≡ range_with_len 1 n ++ (n + 1) ∷ []
one_longer n = sym (map-id (range_with_len 1 (n + 1))) ∙ map-range_with_len_more (λ k. k) 1 n (n + 1) (omega arith) ∙ ap (λ xs. xs ++ (n + 1) ∷ []) (map-id (range_with_len 1 n))

counted : (all n : ℕ) → n ≤ all → count_by (λ done. completes_part done all) (range_with_len 1 n) ≡ min n (parts_done n all)
counted all zero le = omega arith
counted all (suc n) le =
    let on : n + 1 ≡ suc n = omega arith in
    let so_far = counted all n (omega arith) in
    let more = ap (count_by (λ done. completes_part done all)) (one_longer n) ∙ sum_by_push (is_completed all) (range_with_len 1 n) (n + 1) in
    subst (λ k. count_by (λ done. completes_part done all) (range_with_len 1 k) ≡ min k (parts_done k all)) on
    (more ∙ ap (λ k. k + is_completed all (n + 1)) so_far ∙ one_more n all (omega arith))

full : (b c : Bool) (all : ℕ) → 0 < all → nat_le all all ≡ b → nat_lt (parts_done (all - 1) all) (parts_done all all) ≡ c → (b && c) ≡ true
full true true all positive e f = refl
full true false all positive e f =
    let short = div_below (16 * (all - 1)) all 16 positive (omega arith) in
    absurd (omega (arith, short, whole all positive, ltb-false (parts_done (all - 1) all) (parts_done all all) f))
full false c all positive e f = absurd (omega (arith, leb-false all all e))

pub last_completes : (all : ℕ) → 0 < all → completes_part all all ≡ true
last_completes all positive = full (nat_le all all) (nat_lt (parts_done (all - 1) all) (parts_done all all)) all positive refl refl

pub each_part : (all : ℕ) → completed_parts all ≡ min parts all
each_part zero = refl
each_part (suc all) = counted (suc all) (suc all) (omega arith) ∙ omega (arith, whole (suc all) (omega arith))
