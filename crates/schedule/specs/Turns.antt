-- The turns of a schedule that are still to come, for whoever makes them one by one. No rule of the model.
use Rattle.std.specs.Prelude.{◌≡◌, ℕ, Ok}
use Rattle.machine.specs.declared.step.Seen.{Seen}
use Rattle.machine.specs.declared.step.Step.{Step}
use Rattle.machine.specs.State.{State}
use Rattle.machine.specs.Steps.{step_of}
use Rattle.schedule.specs.declared.plan.Plan.{Plan}
use Rattle.schedule.specs.Schedules.{Schedule, after_step, turns_from}

-- of the plan's schedule of this number, so many turns from this one on
pub record Turns : Type 0 where
  pub plan : Plan
  pub number : ℕ
  pub turn : ℕ
  pub left : ℕ

-- all turns of a schedule
abbrev pub all_turns : Plan → ℕ → Turns
all_turns plan number = record { plan = plan; number = number; turn = 0; left = plan.length }

-- what follows from a state
abbrev pub rest_of : Turns → State → Schedule
rest_of t s = turns_from t.plan t.number t.turn t.left s

-- From a state the step is made, and then comes what follows of later turns from the state after it.
abbrev pub GoesOn : Turns → State → Turns → State → Step × Seen → Type 0
GoesOn t s later after made = rest_of t s ≡ after_step made.0 (rest_of later after)

-- The step leads from a state to the one after it, and shows this.
abbrev pub LeadsTo : State → State → Step × Seen → Type 0
LeadsTo s after made = step_of s made.0 ≡ Ok (made.1, after)
