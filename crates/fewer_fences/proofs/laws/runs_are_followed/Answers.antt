use Rattle.fewer_fences.proofs.ThinnerRuns.{run_followed}
use Rattle.fewer_fences.proofs.laws.runs_are_followed.Goals as goal

pub returns : goal.returns
returns c = run_followed
