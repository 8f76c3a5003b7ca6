use Rattle.std.proofs.Common.{◌≡◌, ◌++◌, map}
use Rattle.std.specs.List.{range_with_len}
use Rattle.persist_buffer.specs.Memories.{coherent}
use Rattle.explore.specs.Codes.{coded}
use Rattle.explore.proofs.sets_key.push_words.Given as goal

abbrev pub invariant-loop-place : goal.invariant-loop-place
invariant-loop-place l = l.bytes.items ≡ l.fn.bytes.items ++ coded (map (coherent l.pending.memory) (range_with_len l.start l.place))
