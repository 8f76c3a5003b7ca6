-- One token more than a cache line has words is enough to say that there are too many.
use Rattle.std.proofs.Common.{◌≡◌, ◌+◌, ◌<◌, ◌≤◌, List, length, take, refl, ap, inl, inr, arith}
use Rattle.std.proofs.lemmas.List.{length-take-le, take_all}
use Rattle.std.proofs.lemmas.Bool.{cases_Bool}
use Rattle.std.proofs.lemmas.Bool.Decides.{nat_tests}
use Rattle.std.specs.Prelude.{nat_le, nat_lt, true}
use Rattle.lines_layout.specs.Layouts.{NamedLines, add_line_of}
use Rattle.lines_layout.specs.Lines.{line_words, max_lines}
use Rattle.lines_layout.specs.Names.{Text}
use Rattle.text_tokens.specs.Cursors.{Token}
use Rattle.litmus_text.specs.Reading.{Draft, line_after}

-- where both are too many, they have one fault
both_long : (lines : NamedLines) (names others : List Text) → nat_lt line_words (length names) ≡ true → nat_lt line_words (length others) ≡ true
    → add_line_of lines names ≡ add_line_of lines others
both_long lines names others long also = elim (cases_Bool (nat_le max_lines (length lines))) [
  | inl full ↦ rw full refl
  | inr room ↦ rw (room, long, also) refl
]

-- so many are as good as all
layout_tells : (lines : NamedLines) (names : List Text) → add_line_of lines (take (line_words + 1) names) ≡ add_line_of lines names
layout_tells lines names = elim (cases_Bool (nat_lt line_words (length names))) [
  | inl many ↦
      let more : line_words < length names = grind (arith, nat_tests) in
      let cut : length (take (line_words + 1) names) ≡ line_words + 1 = length-take-le (line_words + 1) names (omega arith) in
      both_long lines (take (line_words + 1) names) names (grind (arith, nat_tests)) many
  | inr few ↦
      let within : length names ≤ line_words + 1 = grind (arith, nat_tests) in
      ap (add_line_of lines) (take_all (line_words + 1) names within)
]

-- the same of a text that goes on with a cache line
pub first_tell : (s : Draft) (tokens : List Token) → line_after s (take (line_words + 1) tokens) ≡ line_after s tokens
unfolding line_after
first_tell s tokens = rw (layout_tells s.layout tokens) refl
