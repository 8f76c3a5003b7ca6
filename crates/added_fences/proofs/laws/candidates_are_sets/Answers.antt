use Rattle.added_fences.proofs.SetsOfCandidates.{candidates_are_sets as are_sets}
use Rattle.added_fences.proofs.laws.candidates_are_sets.Goals as goal

pub returns : goal.returns
returns c = are_sets
