use Rattle.fewer_fences.proofs.ThinnerSteps.{followed}
use Rattle.fewer_fences.proofs.laws.steps_are_followed.Goals as goal

pub returns : goal.returns
returns c = followed
