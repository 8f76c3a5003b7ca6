use Rattle.std.proofs.Common.{◌≡◌, ◌++◌, map, drop}
use Rattle.lines_layout.specs.Shapes.{words_from}
use Rattle.persist_buffer.specs.Memories.{coherent}
use Rattle.explore.specs.Codes.{coded}
use Rattle.explore.specs.Keys.{words_now}
use Rattle.explore.proofs.sets_key.push_words_now.Given as goal

abbrev pub invariant-loop-line : goal.invariant-loop-line
invariant-loop-line l = l.bytes.items ++ coded (map (coherent l.pending.memory) (words_from l.line (drop l.line l.pending.shape))) ≡ l.fn.bytes.items ++ coded (words_now l.pending.memory l.pending.shape)
