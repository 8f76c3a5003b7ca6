use Rattle.moves.proofs.FirstMoves.{told_holds}
use Rattle.moves.proofs.laws.what_is_told_holds.Goals as goal

pub returns : goal.returns
returns c = told_holds
