use Rattle.hunt.proofs.LeastLosses.{loss_joins}
use Rattle.hunt.proofs.LossesJoin.{losses_of_both}
use Rattle.hunt.proofs.laws.losses_join.Goals as goal

pub returns-clause-first : goal.returns-clause-first
returns-clause-first c = loss_joins

pub returns-clause-count : goal.returns-clause-count
returns-clause-count c = losses_of_both
