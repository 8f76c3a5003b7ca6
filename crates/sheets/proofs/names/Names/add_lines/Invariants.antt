use Rattle.std.proofs.Common.{◌≡◌}
use Rattle.text_tokens.specs.Text.{lines_of}
use Rattle.sheets.specs.Words.{lines_given}
use Rattle.sheets.proofs.names.Names.add_lines.Given as goal

abbrev pub invariant-loop-line : goal.invariant-loop-line
invariant-loop-line l = record {
  given : lines_given l.self.layout (lines_of l.line-iterator.rest.now) ≡ lines_given l.fn.self.layout (lines_of l.text);
  same : l.self.constants ≡ l.fn.self.constants;
}
