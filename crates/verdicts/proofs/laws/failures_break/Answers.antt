use Rattle.verdicts.proofs.FailuresBreak.{failure_breaks}
use Rattle.verdicts.proofs.laws.failures_break.Goals as goal

pub returns : goal.returns
returns c = failure_breaks
