use Rattle.std.proofs.Common.{◌≡◌, ◌+◌, length}
use Rattle.std.specs.List.{position_from}
use Rattle.text_tokens.specs.Text.{lines_of}
use Rattle.explanations.specs.Questions.{is_faulty_stop}
use Rattle.explanations.proofs.script_faults.faulty_stop.Given as goal

abbrev pub invariant-loop-line : goal.invariant-loop-line
invariant-loop-line l = record {
  same : position_from (is_faulty_stop l.layout) (l.number + 1) (lines_of l.line-iterator.rest.now) ≡ position_from (is_faulty_stop l.layout) 1 (lines_of l.script);
  count : l.number + length (lines_of l.line-iterator.rest.now) ≡ length (lines_of l.script);
}
