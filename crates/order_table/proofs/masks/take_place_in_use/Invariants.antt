use Rattle.std.proofs.Common.{◌≡◌, length}
use Rattle.order_table.specs.declared.masks.TheConstants.{LINES}
use Rattle.order_table.specs.Places.{AreInUse}
use Rattle.order_table.proofs.LinesInUse.{AreTaken}
use Rattle.order_table.proofs.masks.take_place_in_use.Given as goal

abbrev pub invariant-loop-left : goal.invariant-loop-left
invariant-loop-left l = AreTaken l.place l.left l.fn.lines l.lines × AreInUse l.still_in_use l.lines × (length l.lines ≡ LINES)

abbrev pub decreases-loop-left : goal.decreases-loop-left
decreases-loop-left l = l.left
