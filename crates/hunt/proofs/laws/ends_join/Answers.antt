use Rattle.hunt.proofs.EndsOfSchedules.{ends_of_both}
use Rattle.hunt.proofs.laws.ends_join.Goals as goal

pub returns : goal.returns
returns c = ends_of_both
