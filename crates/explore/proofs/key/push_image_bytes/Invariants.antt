use Rattle.std.proofs.Common.{◌≡◌, ◌++◌, map, drop}
use Rattle.std.specs.Prelude.{slice_index}
use Rattle.lines_layout.specs.Shapes.{words_from, words_of}
use Rattle.explore.specs.Codes.{coded}
use Rattle.explore.proofs.key.push_image_bytes.Given as goal

abbrev pub invariant-loop-line : goal.invariant-loop-line
invariant-loop-line l = l.bytes.items ++ coded (map (slice_index l.pending.memory.persisted) (words_from l.line (drop l.line l.pending.shape))) ≡ l.fn.bytes.items ++ coded (map (slice_index l.pending.memory.persisted) (words_of l.pending.shape))
