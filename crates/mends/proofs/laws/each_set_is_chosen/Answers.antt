use Rattle.mends.proofs.LeastOfAll.{is_chosen}
use Rattle.mends.proofs.laws.each_set_is_chosen.Goals as goal

pub returns : goal.returns
returns c = is_chosen
