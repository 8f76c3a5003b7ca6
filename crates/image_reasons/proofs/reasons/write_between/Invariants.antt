use Rattle.std.proofs.Common.{◌≡◌, drop}
use Rattle.image_reasons.specs.Reasons.{write_between}
use Rattle.image_reasons.proofs.reasons.write_between.Given as goal

abbrev pub invariant-loop-p : goal.invariant-loop-p
invariant-loop-p l = write_between (drop l.p-index l.stores) l.n l.flush ≡ write_between l.stores l.n l.flush
