use Rattle.std.proofs.Common.{◌≡◌}
use Rattle.explore.specs.Narrow.{value_after}
use Rattle.explore.proofs.asked.value_after.Given as goal

abbrev pub invariant-loop-i : goal.invariant-loop-i
invariant-loop-i l = l.value ≡ value_after l.pending.memory l.i l.word
