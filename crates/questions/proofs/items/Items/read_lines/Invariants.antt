use Rattle.std.proofs.Common.{◌≡◌, ◌+◌, length}
use Rattle.text_tokens.specs.Text.{lines_of}
use Rattle.questions.specs.Items.{lines_from}
use Rattle.questions.proofs.items.Items.read_lines.Given as goal

abbrev pub invariant-loop-line : goal.invariant-loop-line
invariant-loop-line l = record {
  same : lines_from l.number l.self (lines_of l.line-iterator.rest.now) ≡ lines_from l.first l.fn.self (lines_of l.rows);
  number : l.number + length (lines_of l.line-iterator.rest.now) ≡ l.first + length (lines_of l.rows);
}
