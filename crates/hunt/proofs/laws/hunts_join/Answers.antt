use Rattle.hunt.proofs.LeastNumbersAreFirst.{all_from, least_joins, none_of_range, some_is_first_of}
use Rattle.hunt.proofs.laws.hunts_join.Goals as goal

pub returns-clause-some : goal.returns-clause-some
returns-clause-some c = some_is_first_of

pub returns-clause-none : goal.returns-clause-none
returns-clause-none c = none_of_range

pub returns-clause-all : goal.returns-clause-all
returns-clause-all c = all_from

pub returns-clause-join : goal.returns-clause-join
returns-clause-join c = least_joins
