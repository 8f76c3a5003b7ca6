use Rattle.std.proofs.Common.{◌≡◌, drop, length}
use Rattle.lines_layout.specs.Lines.{max_words}
use Rattle.explore.specs.FenceMemories.{with_flushed}
use Rattle.explore.proofs.memories.persist_flushed.Given as goal

abbrev pub invariant-loop-i : goal.invariant-loop-i
invariant-loop-i l = record {
  rest : with_flushed (drop l.i l.window) l.persisted ≡ with_flushed l.window l.fn.persisted;
  words : length l.persisted ≡ max_words;
}
