use Rattle.added_fences.proofs.SetsOfCandidates.{candidate_may}
use Rattle.added_fences.proofs.laws.candidates_may_be_put_in.Goals as goal

pub returns : goal.returns
returns c = candidate_may
