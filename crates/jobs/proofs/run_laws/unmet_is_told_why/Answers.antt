use Rattle.jobs.proofs.ReportsOfRuns.{unmet_told}
use Rattle.jobs.proofs.run_laws.unmet_is_told_why.Goals as goal

pub returns : goal.returns
returns c = unmet_told
