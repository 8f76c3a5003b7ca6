use Rattle.std.proofs.Common.{◌≡◌, drop}
use Rattle.explore.specs.FenceMemories.{is_flushed}
use Rattle.explore.proofs.memories.is_flushed.Given as goal

abbrev pub invariant-loop-entry : goal.invariant-loop-entry
invariant-loop-entry l = is_flushed l.line (drop l.entry-index l.entries) ≡ is_flushed l.line l.entries
