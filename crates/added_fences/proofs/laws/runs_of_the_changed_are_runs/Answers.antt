use Rattle.added_fences.proofs.OneMayBePutIn.{runs_before}
use Rattle.added_fences.proofs.laws.runs_of_the_changed_are_runs.Goals as goal

pub returns : goal.returns
returns c = runs_before
