use Rattle.std.proofs.Common.{◌≡◌, ℕ, ◌<◌, false, length, get_or}
use Rattle.lines_layout.specs.Lines.{has_word, max_words}
use Rattle.isa.proofs.object.is_zero_elsewhere.Given as goal

abbrev pub invariant-loop-number : goal.invariant-loop-number
invariant-loop-number l = record {
  zero : (n : ℕ) → n < l.number → has_word l.shape n ≡ false → get_or l.values n 0 ≡ 0;
  count : 0 < l.number → length l.values ≡ max_words;
}
