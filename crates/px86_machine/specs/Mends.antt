-- Words for clauses that speak of what is put into a program so that what is asked holds.
pub use Rattle.image_reasons.specs.declared.repair.Repair.{Repair}
pub use Rattle.candidates.specs.Candidates.{candidates_of}
pub use Rattle.candidates.specs.Sets.{cost, costs_of, with_all}
pub use Rattle.choices.specs.Choices.{comes_before, is_within, picked}
pub use Rattle.added_fences.specs.Sets.{IsWithin}
pub use Rattle.mends.specs.Mends.{AreAllSettled, AreOpened, HoldsWith, IsChoice, IsFirst, IsFound, IsLeftOpen, IsMended, IsNotKnown, IsOpened, IsRuledOutSet, IsUntoldWith}
pub use Rattle.mends.specs.declared.outcome.Mended.{Mended}
pub use Rattle.mends.specs.declared.outcome.Mended.TheVariants.{NoneNeeded, Put, None, NotKnown}
pub use Rattle.mends.specs.declared.outcome.Open.{Open}
