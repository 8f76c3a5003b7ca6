use Rattle.hunt.proofs.LeastNumbersAreFirst.{some_is_least, none_passes}
use Rattle.hunt.proofs.laws.least_numbers_are_first.Goals as goal

pub returns-clause-some : goal.returns-clause-some
returns-clause-some c = some_is_least

pub returns-clause-none : goal.returns-clause-none
returns-clause-none c = none_passes
