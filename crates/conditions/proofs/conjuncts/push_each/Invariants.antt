use Rattle.std.proofs.Common.{◌≡◌, ◌++◌, drop, map}
use Rattle.conditions.specs.Formulas.{Or}
use Rattle.conditions.proofs.conjuncts.push_each.Given as goal

abbrev pub invariant-loop-other : goal.invariant-loop-other
invariant-loop-other l = l.parts.items ++ map (Or l.one) (drop l.other-index l.others) ≡ l.fn.parts.items ++ map (Or l.one) l.others
