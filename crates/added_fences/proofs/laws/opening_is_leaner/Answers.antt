use Rattle.added_fences.proofs.Openings.{opened}
use Rattle.added_fences.proofs.laws.opening_is_leaner.Goals as goal

pub returns : goal.returns
returns c = opened
