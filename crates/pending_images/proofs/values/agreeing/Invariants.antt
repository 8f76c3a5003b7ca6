use Rattle.std.proofs.Common.{◌≡◌}
use Rattle.pending_images.specs.Agreements.{agree_below}
use Rattle.pending_images.proofs.values.agreeing.Given as goal

abbrev pub invariant-loop-number : goal.invariant-loop-number
invariant-loop-number l = l.all.items ≡ agree_below l.given l.pending.memory l.number
