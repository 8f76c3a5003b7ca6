-- Conditions of which a test may be neither true nor false: where the value of one of its terms is not there.
use Rattle.std.specs.Prelude.{◌≡◌, ℕ, Bool, true, false, not, Option, Some, None, option_map}
use Rattle.conditions.specs.declared.cond.Comparison.{Comparison}
use Rattle.conditions.specs.declared.cond.Comparison.TheVariants.{Equal, NotEqual, Less, AtMost, Greater, AtLeast}
use Rattle.conditions.specs.declared.cond.Operand.{Operand}
use Rattle.conditions.specs.Formulas.{Formula, Compared, Not, And, Or}
use Rattle.conditions.specs.Truth.{compared, holds_by, term_value}

-- ---- what a condition means: it is true, false, or neither

-- how two values compare, if both are there
abbrev pub told : Comparison → Option ℕ → Option ℕ → Option Bool
told comparison None b = None
told comparison (Some a) None = None
told comparison (Some a) (Some b) = Some (compared comparison a b)

-- `and` is true where both are, and false where one of them is
abbrev pub both : Option Bool → Option Bool → Option Bool
both (Some false) b = Some false
both (Some true) b = b
both None (Some false) = Some false
both None _ = None

abbrev pub denied : Option Bool → Option Bool
denied a = option_map not a

-- `or` is true where one of them is, and false where both are
abbrev pub either : Option Bool → Option Bool → Option Bool
either a b = denied (both (denied a) (denied b))

abbrev pub truth : (Operand → Option ℕ) → Formula → Option Bool
truth value (Compared left comparison right) = told comparison (term_value value left) (term_value value right)
truth value (Not f) = denied (truth value f)
truth value (And f g) = both (truth value f) (truth value g)
truth value (Or f g) = either (truth value f) (truth value g)

-- ---- the condition that is asked

-- the comparison that is true of two numbers where this one is false
abbrev pub opposite : Comparison → Comparison
opposite Equal = NotEqual
opposite NotEqual = Equal
opposite Less = AtLeast
opposite AtMost = Greater
opposite Greater = AtMost
opposite AtLeast = Less

abbrev pub compares_so : Bool → Comparison → Comparison
compares_so true comparison = comparison
compares_so false comparison = opposite comparison

-- that a condition is true, or that it is false: `not` goes inwards up to the tests, which then compare the other way
abbrev pub stated : Bool → Formula → Formula
stated wanted (Compared left comparison right) = Compared left (compares_so wanted comparison) right
stated wanted (Not f) = stated (not wanted) f
stated true (And f g) = And (stated true f) (stated true g)
stated false (And f g) = Or (stated false f) (stated false g)
stated true (Or f g) = Or (stated true f) (stated true g)
stated false (Or f g) = And (stated false f) (stated false g)

-- whether a truth is the one that is wanted
abbrev pub is_that : Option Bool → Bool → Bool
is_that None wanted = false
is_that (Some b) true = b
is_that (Some b) false = not b

-- What is asked holds exactly where the truth is the one that is wanted.
abbrev pub SaysSo : Type 0
SaysSo = (value : Operand → Option ℕ) (wanted : Bool) (f : Formula) → holds_by value (stated wanted f) ≡ is_that (truth value f) wanted
