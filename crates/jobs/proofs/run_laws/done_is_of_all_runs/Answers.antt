use Rattle.jobs.proofs.ReportsOfRuns.{done_some, done_told}
use Rattle.jobs.proofs.run_laws.done_is_of_all_runs.Goals as goal

pub returns-clause-all : goal.returns-clause-all
returns-clause-all c = done_told

pub returns-clause-some : goal.returns-clause-some
returns-clause-some c = done_some
