use Rattle.std.proofs.Common.{◌≡◌, take, string_bytes}
use Rattle.std.specs.List.{AllByRecursion}
use Rattle.schedule.specs.Written.{IsWritable, steps_text}
use Rattle.schedule.proofs.step_list.write_steps.Given as goal

abbrev pub invariant-loop-step : goal.invariant-loop-step
invariant-loop-step l = record {
  text : string_bytes l.text ≡ steps_text (take l.step-index l.steps);
  writable : AllByRecursion IsWritable (take l.step-index l.steps);
}
