-- How many items a tally counts, and a tally of more outcomes.
use Rattle.std.proofs.Common.{◌≡◌, ℕ, ◌+◌, ◌≤◌, Bool, true, false, cond, List, [], ◌∷◌, ◌++◌, Some, length, refl, sym, ap, ◌∙◌, append_assoc, arith}
use Rattle.std.specs.Prelude.{fold, unwrap_or}
use Rattle.std.specs.Map.{lookup}
use Rattle.std.proofs.lemmas.List.{append-nil}
use Rattle.std.proofs.lemmas.List.Sums.{sum_by-cons}
use Rattle.indexmap.specs.IndexMap.{insert_entry}
use Rattle.hunt.specs.Outcomes.{Observed, is_same}
use Rattle.hunt.specs.Tallies.{count_in, counted, tally_of, total_of}
use Rattle.hunt.specs.Same.{own_outcome, same_outcome}
use Rattle.hunt.proofs.TallyOfOneMore.{tally_more}

module _ {A : Type 0} (same : A → A → Bool) (y : A) where
  one_more : (es : List (A × ℕ)) → total_of (insert_entry same es y (unwrap_or (lookup (same y) es) 0 + 1)) ≡ total_of es + 1
  one_more [] = refl
  one_more (e ∷ es) = by (same y e.0) (one_more es) ∙ ap (λ n. n + 1) (sym (sum_by-cons (λ x. x.1) e es))
    where
      by : (b : Bool) → total_of (insert_entry same es y (unwrap_or (lookup (same y) es) 0 + 1)) ≡ total_of es + 1
          → total_of (cond b ((e.0, unwrap_or (cond b (Some e.1) (lookup (same y) es)) 0 + 1) ∷ es) (e ∷ insert_entry same es y (unwrap_or (cond b (Some e.1) (lookup (same y) es)) 0 + 1)))
          ≡ (e.1 + total_of es) + 1
      by true rest = let cons = sum_by-cons (λ (x : A × ℕ). x.1) (e.0, e.1 + 1) es in omega (arith, cons)
      by false rest =
          let cons = sum_by-cons (λ (x : A × ℕ). x.1) e (insert_entry same es y (unwrap_or (lookup (same y) es) 0 + 1)) in omega (arith, cons, rest)

  within : (es : List (A × ℕ)) → unwrap_or (lookup (same y) es) 0 ≤ total_of es
  within [] = omega arith
  within (e ∷ es) = by (same y e.0) (within es)
    where
      by : (b : Bool) → unwrap_or (lookup (same y) es) 0 ≤ total_of es → unwrap_or (cond b (Some e.1) (lookup (same y) es)) 0 ≤ total_of (e ∷ es)
      by true rest = let cons = sum_by-cons (λ (x : A × ℕ). x.1) e es in omega (arith, cons)
      by false rest = let cons = sum_by-cons (λ (x : A × ℕ). x.1) e es in omega (arith, cons, rest)

pub counted_total : (entries : List (Observed × ℕ)) (y : Observed) → total_of (counted entries y) ≡ total_of entries + 1
counted_total entries y = one_more is_same y entries

pub count_within : (entries : List (Observed × ℕ)) (y : Observed) → count_in entries y ≤ total_of entries
count_within entries y = within is_same y entries

pub all_total : (entries : List (Observed × ℕ)) (ys : List Observed) → total_of (fold counted entries ys) ≡ total_of entries + length ys
all_total entries [] = omega arith
all_total entries (y ∷ ys) =
    let rest = all_total (counted entries y) ys in let here = counted_total entries y in omega (arith, rest, here)

-- a tally with more outcomes
pub tally_goes_on : (xs ys : List Observed) → fold counted (tally_of is_same xs) ys ≡ tally_of is_same (xs ++ ys)
tally_goes_on xs [] = ap (tally_of is_same) (sym (append-nil xs))
tally_goes_on xs (y ∷ ys) =
    ap (λ t. fold counted t ys) (sym (tally_more is_same same_outcome own_outcome xs y)) ∙ tally_goes_on (xs ++ y ∷ []) ys ∙ ap (tally_of is_same) (append_assoc xs (y ∷ []) ys)

-- the counts of a tally add up
pub tally_total : (xs : List Observed) → total_of (tally_of is_same xs) ≡ length xs
tally_total xs = ap total_of (sym (tally_goes_on [] xs)) ∙ all_total [] xs ∙ omega arith
