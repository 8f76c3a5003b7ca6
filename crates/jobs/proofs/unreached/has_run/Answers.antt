use Rattle.jobs.proofs.RanSites.{ran_told}
use Rattle.jobs.proofs.unreached.has_run.Goals as goal

pub returns : goal.returns
returns c = ran_told c.args.found.now c.args.p c.args.recovery c.args.place c.has_run.result c.has_run.ensures
