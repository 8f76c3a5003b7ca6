use Rattle.std.proofs.Common.{◌≡◌, ◌<◌, ℕ, length, slice_index}
use Rattle.lines_layout.specs.Lines.{max_lines}
use Rattle.conditions.specs.Truth.{asks_line}
use Rattle.explore.specs.Narrow.{IsChosen}
use Rattle.explore.proofs.asked.counts_at.Given as goal

abbrev pub invariant-loop-number : goal.invariant-loop-number
invariant-loop-number l = record {
  size : length l.counts ≡ max_lines;
  each : (line : ℕ) → line < l.number → IsChosen (asks_line line l.cond) l.pending.memory l.k line (slice_index l.counts line);
}
