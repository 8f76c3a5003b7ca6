use Rattle.image_reasons.proofs.MissingWritesAreLost.{missing_writes_are_lost}
use Rattle.image_reasons.proofs.laws.missing_writes_are_lost.Goals as goal

pub returns : goal.returns
returns c = missing_writes_are_lost
