-- Words for clauses that speak of crash images.
pub use Rattle.pending_images.specs.Candidates.{candidates, count_of, counted, most_candidates}
pub use Rattle.images.specs.Images.{AreValues, IsImage, IsLeastSet, IsListing, IsSmallestSet, closed_set_of, images_of, value_of, values_of}
pub use Rattle.images.specs.Reaching.{IsLeftByCrash, IsReachedBySteps}
