use Rattle.std.proofs.Common.{◌≡◌, ◌+◌}
use Rattle.lines_layout.specs.Lines.{line_of}
use Rattle.pending_images.specs.Agreements.{allowed_below}
use Rattle.pending_images.proofs.values.found.Given as goal

abbrev pub invariant-loop-k : goal.invariant-loop-k
invariant-loop-k l = record {
  gone : l.gone ≡ record { pending = l.pending; markers = l.k };
  values : l.values.items ≡ allowed_below l.fits.items (line_of l.word) l.column.items (l.k + 1) l.pending.memory.pending;
}
