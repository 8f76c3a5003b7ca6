use Rattle.std.proofs.Common.{◌≡◌, drop, map, take}
use Rattle.std.specs.Option.{option_or}
use Rattle.litmus_text.specs.Labels.{first_lost, line_instruction}
use Rattle.litmus_text.proofs.draft.resolved.Given as goal

abbrev pub invariant-loop-line : goal.invariant-loop-line
invariant-loop-line l = record {
  same : l.code.items ≡ map (line_instruction l.labels) (take l.line-index l.lines);
  first : option_or l.lost (first_lost l.labels (drop l.line-index l.lines)) ≡ first_lost l.labels l.lines;
}
