use Rattle.explore.proofs.LateListsAreRun.{left_in_one}
use Rattle.explore.proofs.WindowsLoseNothing.{counted}
use Rattle.explore.proofs.one_processor_laws.one_memory_a_fence_is_enough.Goals as goal

pub returns-clause-exact : goal.returns-clause-exact
returns-clause-exact c = left_in_one

pub returns-clause-count : goal.returns-clause-count
returns-clause-count c = counted
