use Rattle.std.proofs.Common.{◌≡◌, ◌++◌, drop, string_bytes}
use Rattle.machine.specs.Programs.{AreSiblings}
use Rattle.jobs.specs.NextSteps.{next_lines}
use Rattle.jobs.proofs.next.push_all_next.Given as goal

abbrev pub invariant-loop-step : goal.invariant-loop-step
invariant-loop-step l = record {
  text : string_bytes l.text ++ next_lines l.layout l.machine (drop l.step-index l.steps) ≡ string_bytes l.fn.text ++ next_lines l.layout l.machine l.steps;
  siblings : AreSiblings l.spare l.machine;
}
