use Rattle.explore.proofs.ClosedAhead.{all_covered, kept_by_few}
use Rattle.explore.proofs.ImagesOfRuns.{images_by_few}
use Rattle.explore.proofs.laws.closed_states_stand_for_all.Goals as goal

pub returns-clause-covered : goal.returns-clause-covered
returns-clause-covered c = all_covered

pub returns-clause-kept : goal.returns-clause-kept
returns-clause-kept c = λ sets locals question condition nodes start none alone asked are. kept_by_few sets locals question condition nodes start none alone asked are

pub returns-clause-images : goal.returns-clause-images
returns-clause-images c = images_by_few
