use Rattle.std.proofs.Common.{◌≡◌, ◌+◌, length}
use Rattle.text_tokens.specs.Text.{lines_of}
use Rattle.sheets.specs.Sheets.{read_of, sheet_from}
use Rattle.sheets.proofs.sheet.Sheet.read.Given as goal

abbrev pub invariant-loop-line : goal.invariant-loop-line
invariant-loop-line l = record {
  same : sheet_from (l.number + 1) l.sheet (lines_of l.line-iterator.rest.now) ≡ read_of l.text;
  number : l.number + length (lines_of l.line-iterator.rest.now) ≡ length (lines_of l.text);
}
