use Rattle.hunt.proofs.LeastLosses.{none_is_safe, some_is_first}
use Rattle.hunt.proofs.laws.least_losses_are_first.Goals as goal

pub returns-clause-none : goal.returns-clause-none
returns-clause-none c plan condition start first n sound = none_is_safe plan condition start sound first n

pub returns-clause-some : goal.returns-clause-some
returns-clause-some c plan condition start first n loss sound = some_is_first plan condition start sound first n loss
