use Rattle.std.proofs.Common.{◌≡◌, ◌+◌, length}
use Rattle.text_tokens.specs.Text.{lines_of}
use Rattle.questions.specs.Places.{read_among}
use Rattle.questions.proofs.place.read_among.Given as goal

abbrev pub invariant-loop-line : goal.invariant-loop-line
invariant-loop-line l = record {
  same : read_among l.number l.at l.items (lines_of l.line-iterator.rest.now) ≡ read_among l.fn.number l.first l.fn.items (lines_of l.rows);
  number : l.at + length (lines_of l.line-iterator.rest.now) ≡ l.first + length (lines_of l.rows);
}
