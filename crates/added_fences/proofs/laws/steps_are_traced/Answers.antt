use Rattle.added_fences.proofs.LeanerSteps.{traced}
use Rattle.added_fences.proofs.laws.steps_are_traced.Goals as goal

pub returns : goal.returns
returns c = traced
