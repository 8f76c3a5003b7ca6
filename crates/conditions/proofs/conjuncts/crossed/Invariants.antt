use Rattle.std.proofs.Common.{◌≡◌, ◌++◌, drop}
use Rattle.conditions.specs.Conjuncts.{crossed}
use Rattle.conditions.proofs.conjuncts.crossed.Given as goal

abbrev pub invariant-loop-one : goal.invariant-loop-one
invariant-loop-one l = l.parts.items ++ crossed (drop l.one-index l.ones) l.others ≡ crossed l.ones l.others
