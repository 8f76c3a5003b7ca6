-- What a hunt begins with.
use Rattle.std.specs.Prelude.{◌≡◌, ℕ, ◌+◌, List, nat_lt}
use Rattle.outcomes.specs.Outcomes.{refuse}
use Rattle.isa.specs.Objects.{Object}
use Rattle.litmus_text.specs.TextLines.{TextLines}
use Rattle.litmus_text.specs.declared.text_lines.LinedObject.{LinedObject}
use Rattle.machine.specs.Objects.{opening}
use Rattle.machine.specs.State.{State}
use Rattle.machine.specs.Steps.{run_of}
use Rattle.machine.specs.declared.step.Step.{Step}
use Rattle.conditions.specs.Formulas.{Formula}
use Rattle.schedule.specs.Ranges.{max_schedules}
use Rattle.schedule.specs.declared.range.Range.{Range}
use Rattle.commands.specs.declared.fault.Refused.TheVariants.{TooManySchedules}
use Rattle.commands.specs.declared.jobs.TallyOptions.{TallyOptions}
use Rattle.commands.specs.Programs.{condition_work, list_work, questioned_work, state_work}
use Rattle.commands.specs.Works.{◌>>=◌, Work, done, test}

-- the number behind that of the last schedule that is asked for
abbrev pub end_of : TallyOptions → ℕ
end_of schedules = schedules.first + schedules.runs

-- The numbers are those of the schedules that are asked for.
abbrev pub AreNumbersOf : TallyOptions → Range → Type 0
AreNumbersOf schedules range = (range.first ≡ schedules.first) × (range.n ≡ schedules.runs)

-- a program and the lines of its instructions, a condition, steps, the state to which they lead, and the schedules that are run from there
pub record HuntStart : Type 0 where
  pub object : Object
  pub lines : TextLines
  pub condition : Formula
  pub steps : List Step
  pub state : State
  pub schedules : TallyOptions

-- refused where the number behind that of the last schedule is above `max_schedules`
abbrev pub range_work : TallyOptions → Work (Unit {0})
range_work schedules = test (refuse TooManySchedules (nat_lt max_schedules (end_of schedules)))

-- a program, and a condition of this text on it
abbrev pub asked_work : List ℕ → List ℕ → Work (LinedObject × Formula)
asked_work text program = do
  read ← questioned_work program
  condition ← condition_work read text
  done (read.lined, condition)

-- what a hunt for a condition of this text begins with
abbrev pub start_work : List ℕ → TallyOptions → List ℕ → List ℕ → Work HuntStart
start_work text schedules program steps = do
  asked ← asked_work text program
  range ← range_work schedules
  list ← list_work steps
  state ← state_work (run_of list (opening asked.0.object))
  done (record { object = asked.0.object; lines = asked.0.lines; condition = asked.1; steps = list; state = state; schedules = schedules })
