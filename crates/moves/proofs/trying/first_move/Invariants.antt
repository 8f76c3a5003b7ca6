use Rattle.std.proofs.Common.{take}
use Rattle.std.specs.List.{All}
use Rattle.moves.specs.Moves.{moves_of}
use Rattle.moves.specs.Tried.{IsVain}
use Rattle.moves.proofs.trying.first_move.Given as goal

abbrev pub invariant-loop-one : goal.invariant-loop-one
invariant-loop-one g l = All (IsVain l.question l.limit l.object) (take l.one-index (moves_of l.object))
