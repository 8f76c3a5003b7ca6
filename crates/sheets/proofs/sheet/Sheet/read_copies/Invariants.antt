use Rattle.std.proofs.Common.{◌≡◌, ◌+◌, length}
use Rattle.text_tokens.specs.Text.{lines_of}
use Rattle.sheets.specs.Sheets.{copy_from}
use Rattle.sheets.proofs.sheet.Sheet.read_copies.Given as goal

abbrev pub invariant-loop-line : goal.invariant-loop-line
invariant-loop-line l = record {
  same : copy_from l.processor (l.number + 1) l.self (lines_of l.line-iterator.rest.now) ≡ copy_from l.processor (l.before + 1) l.fn.self (lines_of l.rows);
  number : l.number + length (lines_of l.line-iterator.rest.now) ≡ l.before + length (lines_of l.rows);
}
