-- What a hunt found, as it is told of.
use Rattle.std.specs.Prelude.{ℕ, Some, None, List, ◌++◌, take}
use Rattle.machine.specs.declared.step.Step.{Step}
use Rattle.schedule.specs.declared.plan.Plan.{Plan}
use Rattle.schedule.specs.Schedules.{schedule_of}
use Rattle.hunt.specs.declared.loss.Loss.{Loss}
use Rattle.hunt.specs.declared.loss.Moment.{Moment}
use Rattle.thread_jobs.specs.declared.found.Found.{Found}
use Rattle.thread_jobs.specs.HuntStarts.{HuntStart}

-- a schedule that ends where the condition does not hold: all its turns lead there
abbrev pub found_end : Plan → ℕ → Found
found_end plan number = record { at = record { number = number; turn = plan.length }; breach = None }

-- a schedule and its least turn after which a crash may leave what breaks the condition, and what does
abbrev pub found_crash : Loss → Found
found_crash loss = record { at = loss.at; breach = Some loss.breach }

-- the steps of the schedule that was found, up to the turn
abbrev pub steps_found : HuntStart → Moment → List Step
steps_found start at = take at.turn (schedule_of start.schedules.plan at.number start.state).steps

-- the given steps, and then those of the schedule
abbrev pub steps_to : HuntStart → Moment → List Step
steps_to start at = start.steps ++ steps_found start at
