-- Numbered schedules: runs whose steps the words of a generator choose.
use Rattle.std.specs.Prelude.{◌≡◌, ◌⊎◌, ℕ, zero, suc, ◌+◌, ◌%◌, ◌==◌, Bool, false, if◌then◌else◌, Option, Some, None, Result, Ok, Err, List, [], ◌∷◌, length, slice_get, take, min}
use Rattle.rand_pcg.specs.Lcg.{Lcg, advance, increment_of, started}
use Rattle.rand_pcg.specs.Pcg.{multiplier_64, pcg32}
use Rattle.machine.specs.declared.step.Step.{Step}
use Rattle.machine.specs.declared.step.Step.TheVariants.{Crash}
use Rattle.machine.specs.declared.step.Seen.{Seen}
use Rattle.machine.specs.declared.refusal.Refusal.{Refusal}
use Rattle.machine.specs.State.{State}
use Rattle.machine.specs.Steps.{run_of, step_of}
use Rattle.schedule.specs.declared.plan.Plan.{Plan}
use Rattle.schedule.specs.Enabled.{choices_of}

-- the generator Pcg32 with the plan's seed, and with the schedule's number as its stream
abbrev pub generator_of : Plan → ℕ → Lcg
generator_of plan number = started 64 multiplier_64 plan.seed (increment_of 64 number)

-- the word that it gives in turn t
abbrev pub word_at : Plan → ℕ → ℕ → ℕ
word_at plan number t = (pcg32 (advance 64 multiplier_64 t (generator_of plan number))).0

-- the step that a word chooses, where there is one
abbrev pub chosen : ℕ → List Step → Option Step
chosen word steps = slice_get steps (word % length steps)

-- whether turn t is the one that crashes
abbrev pub is_crash_turn : Option ℕ → ℕ → Bool
is_crash_turn (Some turn) t = turn == t
is_crash_turn None t = false

-- the step of turn t in a state, where the turn draws this word
abbrev pub step_by : Plan → ℕ → ℕ → State → Option Step
step_by plan t word s = if is_crash_turn plan.crash_after t then Some Crash else chosen word (choices_of plan.lazy s)

-- the step of turn t in a state
abbrev pub turn_step : Plan → ℕ → ℕ → State → Option Step
turn_step plan number t s = step_by plan t (word_at plan number t) s

-- the steps of a schedule, and the state after them
pub record Schedule : Type 0 where
  pub steps : List Step
  pub state : State

-- nothing follows in a state
abbrev pub ended : State → Schedule
ended s = record { steps = []; state = s }

-- a schedule with one step before it
abbrev pub after_step : Step → Schedule → Schedule
after_step step end = record { steps = step ∷ end.steps; state = end.state }

-- The step is made and the rest follows, or it is refused and nothing does.
abbrev pub step_and : State → Step → Result (Seen × State) Refusal → (State → Schedule) → Schedule
step_and s step (Ok done) rest = after_step step (rest done.1)
step_and s step (Err refusal) rest = ended s

-- the same of a turn, which may have no step
abbrev pub turn_and : State → Option Step → (State → Schedule) → Schedule
turn_and s None rest = ended s
turn_and s (Some step) rest = step_and s step (step_of s step) rest

-- so many turns, of which the first has number t
abbrev pub turns_from : Plan → ℕ → ℕ → ℕ → State → Schedule
turns_from plan number t zero s = ended s
turns_from plan number t (suc left) s = turn_and s (turn_step plan number t s) (turns_from plan number (t + 1) left)

-- the schedule of a plan that has this number, from a state
abbrev pub schedule_of : Plan → ℕ → State → Schedule
schedule_of plan number s = turns_from plan number 0 plan.length s

-- its steps
abbrev pub plan_steps : Plan → ℕ → State → List Step
plan_steps plan number s = (schedule_of plan number s).steps

-- those of its first turns, at most so many
abbrev pub first_steps : ℕ → Plan → ℕ → State → List Step
first_steps turns plan number s = take turns (plan_steps plan number s)

-- how many turns it has
abbrev pub turns_of : Plan → ℕ → State → ℕ
turns_of plan number s = length (plan_steps plan number s)

-- the state in which it ends
abbrev pub end_of : Plan → ℕ → State → State
end_of plan number s = (schedule_of plan number s).state

-- The steps of a schedule are accepted one after another, from a state, and lead to the schedule's state.
abbrev pub IsRunOf : Schedule → State → Type 0
IsRunOf end s = run_of end.steps s ≡ record { accepted = length end.steps; refusal = None; state = end.state }

-- Each step of a schedule is the one that its turn chooses in the state that those before it leave.
abbrev pub AreChosen : Plan → ℕ → State → Type 0
AreChosen plan number s =
    (t : ℕ) (step : Step) → slice_get (plan_steps plan number s) t ≡ Some step
    → turn_step plan number t (run_of (first_steps t plan number s) s).state ≡ Some step

-- the plan of the same schedules, of which each has so many turns at most
abbrev pub cut_to : Plan → ℕ → Plan
cut_to plan turns = record plan { length = min turns plan.length }

-- Nothing follows in turn t: there is no step to choose from and none is to crash, or the turn's crash is refused.
abbrev pub IsEnded : Plan → ℕ → ℕ → State → Type 0
IsEnded plan number t s =
    (turn_step plan number t s ≡ None) ⊎ ((turn_step plan number t s ≡ Some Crash) × (refusal : Refusal) × (step_of s Crash ≡ Err refusal))
