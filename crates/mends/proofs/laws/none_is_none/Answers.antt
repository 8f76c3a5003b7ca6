use Rattle.mends.proofs.LeastOfAll.{none_at_all}
use Rattle.mends.proofs.laws.none_is_none.Goals as goal

pub returns : goal.returns
returns c = none_at_all
