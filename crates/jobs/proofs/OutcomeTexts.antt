-- The texts of the processors of an outcome, one after another.
use Rattle.std.proofs.Common.{◌≡◌, ℕ, suc, ◌+◌, ◌-◌, ◌<◌, List, ◌++◌, drop, sym, ap, ap₂, ◌∙◌, append_assoc, arith}
use Rattle.lines_layout.specs.Layouts.{NamedLines}
use Rattle.lines_layout.specs.Names.{Text}
use Rattle.jobs.specs.OutcomeReports.{numbers_text, processor_numbers, processor_text}

-- the processors from the next on
pub processors_more : (layout : NamedLines) (count p : ℕ) (rest behind : List ℕ) (text new total : Text) → p < count
    → new ≡ text ++ processor_text p rest → behind ≡ drop processor_numbers rest
    → text ++ numbers_text layout (count - p) p rest ≡ total → new ++ numbers_text layout (count - (p + 1)) (p + 1) behind ≡ total
processors_more layout count p rest behind text new total inside one left so_far =
    let left_over : count - p ≡ suc (count - (p + 1)) = omega (arith, inside) in
    let others = numbers_text layout (count - (p + 1)) (p + 1) in
    ap₂ (λ (t : Text) (b : List ℕ). t ++ others b) one left
    ∙ append_assoc text (processor_text p rest) (others (drop processor_numbers rest))
    ∙ sym (ap (λ (n : ℕ). text ++ numbers_text layout n p rest) left_over) ∙ so_far
