mod MovesByPlace
mod FirstMoves
