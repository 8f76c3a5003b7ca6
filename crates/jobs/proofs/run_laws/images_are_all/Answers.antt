use Rattle.jobs.proofs.ReportsOfRuns.{images_told}
use Rattle.jobs.proofs.run_laws.images_are_all.Goals as goal

pub returns : goal.returns
returns c = images_told
