use Rattle.std.proofs.Common.{◌≡◌, ◌++◌, ◌≤◌, map}
use Rattle.image_reasons.specs.declared.repair.Side.TheVariants.{Before}
use Rattle.moves.specs.Moves.{downward, may_go_before, moves_before, to_side}
use Rattle.moves.proofs.listed.push_before.Given as goal

abbrev pub invariant-loop-left : goal.invariant-loop-left
invariant-loop-left l = record {
  within : l.left ≤ l.from.place;
  rest : l.moves.items ++ map (to_side l.from Before) (downward (may_go_before l.code l.store) l.left) ≡ l.initial.moves.items ++ moves_before l.code l.from l.store;
}

abbrev pub decreases-loop-left : goal.decreases-loop-left
decreases-loop-left l = l.left
