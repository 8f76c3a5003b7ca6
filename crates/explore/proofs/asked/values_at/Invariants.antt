use Rattle.std.proofs.Common.{◌≡◌, ◌<◌, ℕ, length, slice_index}
use Rattle.lines_layout.specs.Lines.{line_of, max_words}
use Rattle.explore.specs.Narrow.{value_after}
use Rattle.explore.proofs.asked.values_at.Given as goal

abbrev pub invariant-loop-number : goal.invariant-loop-number
invariant-loop-number l = record {
  size : length l.values ≡ max_words;
  each : (word : ℕ) → word < l.number → slice_index l.values word ≡ value_after l.pending.memory (slice_index l.counts (line_of word)) word;
}
