use Rattle.std.proofs.Common.{◌≡◌, ◌++◌, ◌-◌, length, map}
use Rattle.image_reasons.specs.declared.repair.Side.TheVariants.{Behind}
use Rattle.moves.specs.Moves.{may_go_behind, moves_behind, to_side, upward}
use Rattle.moves.proofs.listed.push_behind.Given as goal

abbrev pub invariant-loop-to : goal.invariant-loop-to
invariant-loop-to l =
    l.moves.items ++ map (to_side l.from Behind) (upward (may_go_behind l.code l.store) l.to (length l.code - l.to))
    ≡ l.initial.moves.items ++ moves_behind l.code l.from l.store
