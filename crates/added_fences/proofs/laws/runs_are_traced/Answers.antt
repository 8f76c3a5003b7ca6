use Rattle.added_fences.proofs.LeanerRuns.{run_traced}
use Rattle.added_fences.proofs.laws.runs_are_traced.Goals as goal

pub returns : goal.returns
returns c = run_traced
