use Rattle.images.proofs.FirstImagesAreLeast.{first_is_least}
use Rattle.images.proofs.image_truth.some_image.Goals as goal

pub returns-clause-least : goal.returns-clause-least
returns-clause-least c = first_is_least c.args.view.now _ _ _ c.first_image.ensures
