use Rattle.std.proofs.Common.{◌≡◌, ◌+◌, length}
use Rattle.text_tokens.specs.Text.{lines_of}
use Rattle.explanations.specs.StepLines.{step_line_from, step_line_of}
use Rattle.explanations.proofs.step_lines.line_of_step.Given as goal

abbrev pub invariant-loop-line : goal.invariant-loop-line
invariant-loop-line l = record {
  same : step_line_from (l.number + 1) (lines_of l.line-iterator.rest.now) l.left ≡ step_line_of l.text l.place;
  count : l.number + length (lines_of l.line-iterator.rest.now) ≡ length (lines_of l.text);
}
