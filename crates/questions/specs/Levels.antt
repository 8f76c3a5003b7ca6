-- What was read on one level of brackets.
use Rattle.std.specs.Prelude.{ℕ, ◌+◌, Bool, ◌&&◌, ◌==◌, Option, Some, None, is_none, option_map}
use Rattle.conditions.specs.Formulas.{Formula, Not, And, Or}
use Rattle.conditions.specs.Reading.{joined, negated, said}
use Rattle.questions.specs.declared.level.Level.{Level}

-- nothing is read on a level that lies so deep
abbrev pub empty_level : ℕ → Level
empty_level depth = record { depth = depth; nots = 0; left = None; terms = None; factors = None }

-- how many round brackets and `not`s are open at the next token
abbrev pub opened : Level → ℕ
opened level = level.depth + level.nots

-- a factor ends
abbrev pub with_factor : Level → Formula → Level
with_factor level f = record level { nots = 0; factors = Some (joined And level.factors (negated level.nots f)) }

-- what stands behind the `->`, or on the whole level where it has none
abbrev pub side_said : Level → Option Formula
side_said level = said level.terms level.factors

-- a -> b is `not a or b`
abbrev pub implied : Option Formula → Formula → Formula
implied None f = f
implied (Some left) f = Or (Not left) f

-- the condition that the whole level says
abbrev pub level_said : Level → Option Formula
level_said level = option_map (implied level.left) (side_said level)

-- whether no token of a condition was read on the level
abbrev pub is_untouched : Level → Bool
is_untouched level = level.nots == 0 && is_none level.left && is_none level.terms && is_none level.factors
