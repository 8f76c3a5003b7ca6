use Rattle.pending_images.proofs.ImagesAreListed.{is_listing, only_listing}
use Rattle.pending_images.proofs.laws.images_are_listed.Goals as goal

pub returns-clause-listing : goal.returns-clause-listing
returns-clause-listing c = is_listing

pub returns-clause-only : goal.returns-clause-only
returns-clause-only c = only_listing
