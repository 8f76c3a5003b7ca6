use Rattle.hunt.proofs.OutcomesJoin.{outcomes_are_parts}
use Rattle.hunt.proofs.laws.ranges_are_parts_of_all.Goals as goal

pub returns : goal.returns
returns c = outcomes_are_parts
