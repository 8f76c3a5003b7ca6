use Rattle.image_reasons.proofs.ReasonsAreSo.{reasons_are_so}
use Rattle.image_reasons.proofs.laws.reasons_are_so.Goals as goal

pub returns : goal.returns
returns c = reasons_are_so
