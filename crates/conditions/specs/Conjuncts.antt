-- The conjuncts of a condition: conditions that all hold exactly where it does.
use Rattle.std.specs.Prelude.{◌≡◌, ℕ, Bool, true, false, ◌||◌, Option, List, [], ◌∷◌, ◌++◌, map, if◌then◌else◌}
use Rattle.std.specs.List.{list_all, list_any}
use Rattle.conditions.specs.declared.cond.Operand.{Operand}
use Rattle.conditions.specs.Terms.{Term}
use Rattle.conditions.specs.Formulas.{Formula, Compared, Not, And, Or}
use Rattle.conditions.specs.Truth.{holds_by}

-- whether a formula tests one of some terms
abbrev pub tests : (Term → Bool) → Formula → Bool
tests among (Compared left comparison right) = among left || among right
tests among (Not f) = tests among f
tests among (And f g) = tests among f || tests among g
tests among (Or f g) = tests among f || tests among g

-- Some formulas are the conjuncts of one.
pub record AreConjuncts (parts : List Formula) (whole : Formula) : Type 0 where
  -- whatever values operands have, all the parts hold exactly where the whole does
  pub same : (value : Operand → Option ℕ) → list_all (holds_by value) parts ≡ holds_by value whole
  -- no part tests a term that the whole does not
  pub within : (among : Term → Bool) → list_any (tests among) parts ≡ true → tests among whole ≡ true

-- ---- how they are found: no rule, and in no public clause

-- that a formula holds, or that it does not
abbrev pub claimed : Bool → Formula → Formula
claimed true f = f
claimed false f = Not f

-- each of some formulas or of others: `or` of each two
abbrev pub crossed : List Formula → List Formula → List Formula
crossed [] gs = []
crossed (f ∷ fs) gs = map (Or f) gs ++ crossed fs gs

-- the conjuncts of `and` or of `or`, made of those of its two sides
abbrev pub combined : Bool → List Formula → List Formula → List Formula
combined both fs gs = if both then fs ++ gs else crossed fs gs
