use Rattle.std.proofs.Common.{◌≡◌}
use Rattle.text_tokens.specs.Text.{lines_of}
use Rattle.sheets.specs.Reading.{are_of_sheet, is_sheet}
use Rattle.sheets.proofs.reading.is_sheet.Given as goal

abbrev pub invariant-loop-line : goal.invariant-loop-line
invariant-loop-line l = are_of_sheet (lines_of l.line-iterator.rest.now) ≡ is_sheet l.text
