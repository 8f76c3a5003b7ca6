use Rattle.jobs.proofs.ImagesAreExplained.{images_explained}
use Rattle.jobs.proofs.run_laws.images_are_explained.Goals as goal

pub returns : goal.returns
returns c = images_explained
