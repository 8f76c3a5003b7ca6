use Rattle.pending_images.proofs.LeastSetsAreFound.{is_least_set}
use Rattle.pending_images.proofs.OnlySet.{least_is_first, least_there, only_set}
use Rattle.pending_images.proofs.laws.least_sets_are_found.Goals as goal

pub returns-clause-set : goal.returns-clause-set
returns-clause-set c = λ shape m image is_shape below size. is_least_set shape image m is_shape below size

pub returns-clause-only : goal.returns-clause-only
returns-clause-only c = only_set

pub returns-clause-there : goal.returns-clause-there
returns-clause-there c = least_there

pub returns-clause-first : goal.returns-clause-first
returns-clause-first c = least_is_first
