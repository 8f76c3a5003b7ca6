use Rattle.std.proofs.Common.{◌≡◌, ◌++◌, length}
use Rattle.schedule.specs.Schedules.{schedule_of}
use Rattle.schedule.specs.Turns.{rest_of}
use Rattle.schedule.proofs.plan.plan_steps.Given as goal

abbrev pub invariant-loop-step : goal.invariant-loop-step
invariant-loop-step l = l.steps.items ++ (rest_of l.turns l.own).steps ≡ (schedule_of l.plan l.number l.machine).steps

abbrev pub decreases-loop-step : goal.decreases-loop-step
decreases-loop-step l = length (rest_of l.turns l.own).steps
