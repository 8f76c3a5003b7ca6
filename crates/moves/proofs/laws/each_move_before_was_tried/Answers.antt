use Rattle.moves.proofs.FirstMoves.{each_before}
use Rattle.moves.proofs.laws.each_move_before_was_tried.Goals as goal

pub returns : goal.returns
returns c = each_before
