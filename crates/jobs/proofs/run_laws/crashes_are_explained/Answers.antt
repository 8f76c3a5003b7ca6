use Rattle.jobs.proofs.ImagesAreExplained.{crashes_explained}
use Rattle.jobs.proofs.run_laws.crashes_are_explained.Goals as goal

pub returns : goal.returns
returns c = λ options program steps start failure place told ready fails is. crashes_explained options program steps start failure place told ready fails
