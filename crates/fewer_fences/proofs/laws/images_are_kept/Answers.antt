use Rattle.fewer_fences.proofs.Images.{image_kept}
use Rattle.fewer_fences.proofs.laws.images_are_kept.Goals as goal

pub returns : goal.returns
returns c = image_kept
