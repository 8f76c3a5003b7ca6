use Rattle.std.proofs.Common.{◌≡◌, None, drop}
use Rattle.std.specs.List.{fold}
use Rattle.image_reasons.specs.Reasons.{newer_write}
use Rattle.image_reasons.proofs.reasons.write_before.Given as goal

abbrev pub invariant-loop-p : goal.invariant-loop-p
invariant-loop-p l = fold (newer_write l.line l.operation) l.newest (drop l.p-index l.stores) ≡ fold (newer_write l.line l.operation) None l.stores
