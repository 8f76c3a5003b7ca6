use Rattle.jobs.proofs.ExplainedRuns.{explained_if}
use Rattle.jobs.proofs.check_report.explained_report.Goals as goal

pub returns : goal.returns
returns g c =
    explained_if c.args.options.now c.args.start.now c.args.failure.now c.in_ok-told.told c.failure_report.result c.in_ok-told.ensures c.failure_report.ensures
