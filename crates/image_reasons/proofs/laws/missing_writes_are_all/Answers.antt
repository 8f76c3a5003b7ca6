use Rattle.image_reasons.proofs.NoMissingWriteIsLeftOut.{missing_writes_are_all}
use Rattle.image_reasons.proofs.laws.missing_writes_are_all.Goals as goal

pub returns : goal.returns
returns c = missing_writes_are_all
