use Rattle.std.proofs.Common.{◌≡◌, ◌++◌, map}
use Rattle.text_tokens.specs.Text.{lines_of}
use Rattle.sheets.proofs.said.push_numbers.Given as goal

abbrev pub invariant-loop-line : goal.invariant-loop-line
invariant-loop-line l = l.lines.items ++ map (λ _. l.number) (lines_of l._line-iterator.rest.now) ≡ l.fn.lines.items ++ map (λ _. l.number) (lines_of l.piece)
