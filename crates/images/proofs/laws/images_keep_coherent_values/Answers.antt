use Rattle.images.proofs.ImagesKeepCoherentValues.{images_keep}
use Rattle.images.proofs.laws.images_keep_coherent_values.Goals as goal

pub returns : goal.returns
returns c = images_keep
