-- A ring that is filled with the two parts of another.
use Rattle.std.proofs.Common.{◌≡◌, ◌∙◌, ap, ap₂, sym, subst, ℕ, ◌+◌, ◌-◌, ◌≤◌, List, ◌++◌, length, take, min, arith}
use Rattle.std.proofs.Math.Nat.{min-eq_left}
use Rattle.std.proofs.Math.Seq.{take-length}
use Rattle.std.proofs.lemmas.List.{length-append}

-- what fits is taken whole
taken_whole : {T : Type 0} (xs : List T) (room n : ℕ) → length xs ≤ room → n ≡ min (length xs) room → take n xs ≡ xs
taken_whole xs room n fits is = ap (λ k. take k xs) (is ∙ min-eq_left fits) ∙ take-length xs

pub filled : {T : Type 0} (front back items : List T) (capacity n m : ℕ) → front ++ back ≡ items → length items ≤ capacity
    → n ≡ min (length front) (capacity - 0) → m ≡ min (length back) (capacity - length (take n front)) → take n front ++ take m back ≡ items
filled front back items capacity n m parts fits first second =
    let sum : length front + length back ≤ capacity = subst (λ k. k ≤ capacity) (sym (ap length parts) ∙ length-append front back) fits in
    let fronts : take n front ≡ front = taken_whole front _ n (omega (arith, sum)) first in
    let count : length (take n front) ≡ length front = ap length fronts in
    ap₂ (λ f b. f ++ b) fronts (taken_whole back _ m (omega (arith, sum, count)) second) ∙ parts
