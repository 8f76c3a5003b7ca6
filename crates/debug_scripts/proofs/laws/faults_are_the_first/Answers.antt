use Rattle.debug_scripts.proofs.FaultsAreTheFirst.{only_faults, fault_is_told}
use Rattle.debug_scripts.proofs.laws.faults_are_the_first.Goals as goal

pub returns-clause-only : goal.returns-clause-only
returns-clause-only c = only_faults

pub returns-clause-all : goal.returns-clause-all
returns-clause-all c = fault_is_told
