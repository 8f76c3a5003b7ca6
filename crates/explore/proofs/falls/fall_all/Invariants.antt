use Rattle.std.proofs.Common.{◌≡◌, drop}
use Rattle.explore.specs.Found.{HasNode, falls_from}
use Rattle.explore.proofs.falls.fall_all.Given as goal

abbrev pub invariant-loop-image : goal.invariant-loop-image
invariant-loop-image l = record {
  fallen : falls_from l.node (drop l.image-index l.images) l.found ≡ falls_from l.node l.images l.fn.found;
  there : HasNode l.found l.node;
}
