use Rattle.schedule.proofs.EnabledStepsAreThoseAccepted.{only, always}
use Rattle.schedule.proofs.EnabledStepsAreOrdered.{enabled_ordered}
use Rattle.schedule.proofs.laws.enabled_steps_are_those_accepted.Goals as goal

pub returns-clause-only : goal.returns-clause-only
returns-clause-only c = only

pub returns-clause-always : goal.returns-clause-always
returns-clause-always c = λ s step is. always s step is.0 is.1

pub returns-clause-order : goal.returns-clause-order
returns-clause-order c = enabled_ordered
