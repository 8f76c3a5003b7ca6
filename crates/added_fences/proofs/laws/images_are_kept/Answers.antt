use Rattle.added_fences.proofs.EndsKept.{image_kept}
use Rattle.added_fences.proofs.laws.images_are_kept.Goals as goal

pub returns : goal.returns
returns c = image_kept
