use Rattle.jobs.proofs.ReportsOfRuns.{listed_told}
use Rattle.jobs.proofs.run_laws.outcomes_are_all.Goals as goal

pub returns : goal.returns
returns c = listed_told
