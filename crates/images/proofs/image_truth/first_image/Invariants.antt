use Rattle.std.proofs.Common.{◌≡◌, drop, find}
use Rattle.images.specs.Truth.{answers}
use Rattle.images.proofs.image_truth.first_image.Given as goal

abbrev pub invariant-loop-image : goal.invariant-loop-image
invariant-loop-image l = record {
  rest : find (answers l.wanted l.view l.cond) (drop l.image-index l.images) ≡ find (answers l.wanted l.view l.cond) l.images;
}
