use Rattle.std.proofs.Common.{◌≡◌, ◌++◌, drop, map}
use Rattle.serde_json.specs.View.{view}
use Rattle.json_texts.specs.Objects.{json_of}
use Rattle.json_texts.specs.StepLines.{line_data, step_lines}
use Rattle.json_texts.proofs.step_lines.push_lines.Given as goal

abbrev pub invariant-loop-step : goal.invariant-loop-step
invariant-loop-step l =
    map view l.items.items ++ map json_of (map line_data (step_lines l.lines (drop l.step-index l.steps) l.machine))
    ≡ map view l.fn.items.items ++ map json_of (map line_data (step_lines l.lines l.steps l.fn.machine))
