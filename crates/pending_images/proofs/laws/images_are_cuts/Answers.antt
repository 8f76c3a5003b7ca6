use Rattle.pending_images.proofs.ImagesAreCuts.{cut_law, closed_law, leaving_law}
use Rattle.pending_images.proofs.laws.images_are_cuts.Goals as goal

pub returns-clause-closed : goal.returns-clause-closed
returns-clause-closed c = closed_law

pub returns-clause-cut : goal.returns-clause-cut
returns-clause-cut c = cut_law

pub returns-clause-image : goal.returns-clause-image
returns-clause-image c = leaving_law
