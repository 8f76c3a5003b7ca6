use Rattle.std.proofs.Common.{◌≡◌, ◌++◌, drop}
use Rattle.explore.specs.FenceMemories.{pending_in}
use Rattle.explore.proofs.memories.pending_in.Given as goal

abbrev pub invariant-loop-entry : goal.invariant-loop-entry
invariant-loop-entry l = l.pending.items ++ pending_in (drop l.entry-index l.window) ≡ pending_in l.window
