use Rattle.std.proofs.Common.{◌≡◌, ◌++◌, drop}
use Rattle.explore.proofs.numbers.NumberSet.to_vec.Given as goal

abbrev pub invariant-loop-i : goal.invariant-loop-i
invariant-loop-i l = l.lists.items ++ drop l.i l.self ≡ l.self
