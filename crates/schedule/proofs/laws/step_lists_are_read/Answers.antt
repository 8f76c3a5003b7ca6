use Rattle.schedule.proofs.StepListsAreRead.{list_is_read, bad_is_told}
use Rattle.schedule.proofs.laws.step_lists_are_read.Goals as goal

pub returns-clause-list : goal.returns-clause-list
returns-clause-list c = list_is_read

pub returns-clause-bad : goal.returns-clause-bad
returns-clause-bad c = bad_is_told
