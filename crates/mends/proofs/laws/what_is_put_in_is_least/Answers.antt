use Rattle.mends.proofs.LeastOfAll.{is_least}
use Rattle.mends.proofs.laws.what_is_put_in_is_least.Goals as goal

pub returns : goal.returns
returns c = is_least
