use Rattle.std.proofs.Common.{◌≡◌, ◌+◌, length}
use Rattle.text_tokens.specs.Text.{lines_of}
use Rattle.schedule.specs.StepTexts.{steps_from, steps_of}
use Rattle.schedule.proofs.StepLines.{with_front}
use Rattle.schedule.proofs.step_text.read_steps.Given as goal

abbrev pub invariant-loop-line : goal.invariant-loop-line
invariant-loop-line l = record {
  same : with_front l.steps.items (steps_from (l.number + 1) (lines_of l.line-iterator.rest.now)) ≡ steps_of l.text;
  count : l.number + length (lines_of l.line-iterator.rest.now) ≡ length (lines_of l.text);
}
