use Rattle.std.proofs.Common.{◌≡◌, ◌++◌, drop}
use Rattle.explore.specs.FenceMemories.{unflushed}
use Rattle.explore.proofs.memories.unflushed.Given as goal

abbrev pub invariant-loop-i : goal.invariant-loop-i
invariant-loop-i l = l.kept.items ++ unflushed (drop l.i l.window) ≡ unflushed l.window
