use Rattle.hunt.proofs.LeastLosses.{lossless_is_safe}
use Rattle.hunt.proofs.laws.lossless_schedules_are_safe.Goals as goal

pub returns : goal.returns
returns c plan condition start number sound = lossless_is_safe plan condition start sound number
