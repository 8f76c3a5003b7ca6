use Rattle.std.proofs.Common.{◌≡◌, ◌-◌}
use Rattle.text_tokens.specs.Text.{tokens_of}
use Rattle.std.specs.List.{range_with_len}
use Rattle.sheets.specs.Abbreviations.{copies}
use Rattle.sheets.specs.Words.{all_lines_said, lines_said}
use Rattle.sheets.proofs.words.lines_said.Given as goal

abbrev pub invariant-loop-number : goal.invariant-loop-number
invariant-loop-number l =
    lines_said l.names l.count (tokens_of l.tokens.rest.now) l.text.items (range_with_len l.number (copies l.count - l.number))
    ≡ all_lines_said l.names l.count (tokens_of l.tokens.rest.now)
