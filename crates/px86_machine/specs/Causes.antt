-- Words for clauses that speak of the writes that are missing in what a crash left, and of those that are enough alone.
pub use Rattle.image_reasons.specs.declared.missing.Missing.{Missing}
pub use Rattle.image_reasons.specs.Reasons.{missing_after}
pub use Rattle.causes.specs.declared.told.Told.{Told}
pub use Rattle.causes.specs.Enough.{AreAllTold, AreRight, AreTold, HasLeft, HasPersisted, IsEnoughBehind, IsEnoughHere, IsEnoughInImage, IsRight, Keeps, KeepsBehind, KeepsImage, LeadsOn, acts, is_first, is_of_another, is_of_others, is_place, most_tried, told_of, writes_same}
