use Rattle.explore.proofs.EndsAreStill.{still_is_end}
use Rattle.explore.proofs.EndsByNodes.{only_crashes}
use Rattle.explore.proofs.laws.ends_are_still.Goals as goal

pub returns-clause-alone : goal.returns-clause-alone
returns-clause-alone c = λ s end step seen t. only_crashes s t step seen end

pub returns-clause-still : goal.returns-clause-still
returns-clause-still c = still_is_end
