use Rattle.std.proofs.Common.{◌≡◌, drop}
use Rattle.image_reasons.specs.Reasons.{passing_write}
use Rattle.image_reasons.proofs.reasons.passing_write.Given as goal

abbrev pub invariant-loop-p : goal.invariant-loop-p
invariant-loop-p l = passing_write (drop l.p-index l.stores) l.flush ≡ passing_write l.stores l.flush
