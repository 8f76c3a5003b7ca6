use Rattle.explore.proofs.CoveredSteps.{sound_whole}
use Rattle.explore.proofs.HeldByLines.{held_are_reached}
use Rattle.explore.proofs.laws.crashes_leave_what_lines_hold.Goals as goal

pub returns : goal.returns
returns c = λ s persisted sound held. held_are_reached s.memory persisted (sound_whole s sound) held
