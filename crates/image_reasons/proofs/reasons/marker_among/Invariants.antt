use Rattle.std.proofs.Common.{◌≡◌, drop}
use Rattle.image_reasons.specs.Reasons.{marker_among}
use Rattle.image_reasons.proofs.reasons.marker_among.Given as goal

abbrev pub invariant-loop-p : goal.invariant-loop-p
invariant-loop-p l = marker_among l.line (drop l.p-index l.pended) ≡ marker_among l.line l.pended
