use Rattle.explore.proofs.LawsInWords.{moved_or_held}
use Rattle.explore.proofs.laws.lines_hold_what_crashes_leave.Goals as goal

pub returns : goal.returns
returns c = moved_or_held
