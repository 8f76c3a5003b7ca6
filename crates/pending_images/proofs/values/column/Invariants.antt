use Rattle.std.proofs.Common.{◌≡◌, ◌++◌, drop}
use Rattle.lines_layout.specs.Lines.{line_of}
use Rattle.persist_buffer.specs.Listings.{writes_on}
use Rattle.pending_images.specs.Agreements.{column_later, column_of}
use Rattle.pending_images.proofs.values.column.Given as goal

abbrev pub invariant-loop-i : goal.invariant-loop-i
invariant-loop-i l = l.values.items ++ column_later l.word l.value (drop l.i (writes_on (line_of l.word) l.pending.memory.pending)) ≡ column_of l.word l.pending.memory
