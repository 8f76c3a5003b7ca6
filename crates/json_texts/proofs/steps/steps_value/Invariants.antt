use Rattle.std.proofs.Common.{◌≡◌, ◌++◌, drop, map}
use Rattle.serde_json.specs.View.{view}
use Rattle.json_texts.specs.Objects.{json_of}
use Rattle.json_texts.specs.StepData.{step_data}
use Rattle.json_texts.proofs.steps.steps_value.Given as goal

abbrev pub invariant-loop-step : goal.invariant-loop-step
invariant-loop-step l =
    map view l.items.items ++ map json_of (map step_data (drop l.step-index l.steps))
    ≡ map json_of (map step_data l.steps)
