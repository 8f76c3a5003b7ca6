-- Values: what is added, less what is taken away. They do not wrap.
use Rattle.std.specs.Prelude.{◌+◌, Bool, nat_lt, if◌then◌else◌, Option, Some, None, Result, Ok}
use Rattle.outcomes.specs.Outcomes.{◌>>=◌, refuse}
use Rattle.litmus_text.specs.declared.fault.LineFault.{LineFault}
use Rattle.litmus_text.specs.declared.fault.LineFault.TheVariants.{TooLong}
use Rattle.conditions.specs.declared.cond.Comparison.{Comparison}
use Rattle.conditions.specs.Terms.{Term, Number, Plus, addends}
use Rattle.conditions.specs.Formulas.{Formula, Compared}
use Rattle.questions.specs.declared.sum.Sum.{Sum}
use Rattle.questions.specs.Limits.{max_size}

-- what is there is added; no term is larger than an item may be
unfoldable pub joined_terms : Option Term → Option Term → Result (Option Term) LineFault
joined_terms None more = Ok more
joined_terms (Some before) None = Ok (Some before)
joined_terms (Some before) (Some more) = do
  few ← refuse TooLong (nat_lt max_size (addends before + addends more))
  Ok (Some (Plus before more))

-- nothing is added, and nothing is taken away
abbrev pub no_sum : Sum
no_sum = record { plus = None; minus = None }

-- one term
abbrev pub alone : Term → Sum
alone term = record { plus = Some term; minus = None }

-- a value that is taken away
abbrev pub signed : Bool → Sum → Sum
signed takes sum = if takes then record { plus = sum.minus; minus = sum.plus } else sum

-- the sum of two values
unfoldable pub summed : Sum → Sum → Result Sum LineFault
summed sum more = do
  plus ← joined_terms sum.plus more.plus
  minus ← joined_terms sum.minus more.minus
  Ok (record { plus = plus; minus = minus })

-- what is not there is 0
abbrev pub or_zero : Option Term → Term
or_zero None = Number 0
or_zero (Some term) = term

-- two values compare so: what one side takes away is added to the other
unfoldable pub sums_compared : Sum → Comparison → Sum → Result Formula LineFault
sums_compared left comparison right = do
  one ← joined_terms left.plus right.minus
  other ← joined_terms right.plus left.minus
  Ok (Compared (or_zero one) comparison (or_zero other))
