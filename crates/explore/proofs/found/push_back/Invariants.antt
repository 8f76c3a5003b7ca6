use Rattle.std.proofs.Common.{◌≡◌, ◌++◌, ◌-◌, length, reverse, take}
use Rattle.explore.proofs.found.push_back.Given as goal

abbrev pub invariant-loop-i : goal.invariant-loop-i
invariant-loop-i l = l.back.items ++ reverse (take (length l.steps - l.i) l.steps) ≡ l.fn.back.items ++ reverse l.steps
