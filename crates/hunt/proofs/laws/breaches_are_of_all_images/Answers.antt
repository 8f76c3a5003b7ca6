use Rattle.hunt.proofs.LeastLosses.{none_breach, some_breach}
use Rattle.hunt.proofs.laws.breaches_are_of_all_images.Goals as goal

pub returns-clause-none : goal.returns-clause-none
returns-clause-none c = none_breach

pub returns-clause-some : goal.returns-clause-some
returns-clause-some c = λ condition s sound breach. some_breach condition s breach sound
