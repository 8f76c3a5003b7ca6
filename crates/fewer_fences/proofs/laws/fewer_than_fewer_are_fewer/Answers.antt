use Rattle.fewer_fences.proofs.FewerPrograms.{fewer_itself, fewer_joined, one_nop}
use Rattle.fewer_fences.proofs.laws.fewer_than_fewer_are_fewer.Goals as goal

pub returns-clause-itself : goal.returns-clause-itself
returns-clause-itself c = fewer_itself

pub returns-clause-joined : goal.returns-clause-joined
returns-clause-joined c = fewer_joined

pub returns-clause-one : goal.returns-clause-one
returns-clause-one c = one_nop
