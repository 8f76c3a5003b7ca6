use Rattle.fewer_fences.proofs.Openings.{opened}
use Rattle.fewer_fences.proofs.laws.opening_is_thinner.Goals as goal

pub returns : goal.returns
returns c = opened
