use Rattle.std.proofs.Common.{◌≡◌, drop}
use Rattle.explore.specs.Sets.{included_all}
use Rattle.explore.proofs.gathered.add_images.Given as goal

abbrev pub invariant-loop-image : goal.invariant-loop-image
invariant-loop-image l = included_all l.set (drop l.image-index l.images) ≡ included_all l.fn.set l.images
