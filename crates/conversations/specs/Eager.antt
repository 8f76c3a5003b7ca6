-- Steps that are made of themselves: the first enabled step, again and again, and the next instruction of a processor.
use Rattle.std.specs.Prelude.{ℕ, zero, suc, Bool, false, ◌==◌, if◌then◌else◌, Option, Some, None, Result, Ok, Err, List, [], ◌∷◌, length, nat_lt, replicate, slice_get}
use Rattle.std.specs.Option.{option_map_or}
use Rattle.machine.specs.State.{State, processor_at}
use Rattle.machine.specs.Steps.{step_of}
use Rattle.machine.specs.declared.refusal.Refusal.{Refusal}
use Rattle.machine.specs.declared.step.Seen.{Seen}
use Rattle.machine.specs.declared.step.Step.{Step}
use Rattle.machine.specs.declared.step.Step.TheVariants.{Exec}
use Rattle.schedule.specs.Enabled.{enabled_of}
use Rattle.conversations.specs.declared.eager.Aim.{Aim}
use Rattle.conversations.specs.declared.eager.Aim.TheVariants.{Nowhere, At}

-- how many steps a line makes at most
abbrev pub most_steps : ℕ
most_steps = 1000

-- a step, if it is accepted, and then those that come in the state after it
abbrev pub step_and : (State → List Step) → Step → Result (Seen × State) Refusal → List Step
step_and others step (Ok (seen, t)) = step ∷ others t
step_and others step (Err refusal) = []

-- the same, if there is a step
abbrev pub first_and : (State → List Step) → State → Option Step → List Step
first_and others s None = []
first_and others s (Some step) = step_and others step (step_of s step)

-- of the steps that are enabled the first, again and again, up to the first state after a step that passes a test, and at most n times
abbrev pub steps_to : (State → Bool) → ℕ → State → List Step
steps_to is_there zero s = []
steps_to is_there (suc n) s = first_and (λ t. if is_there t then [] else steps_to is_there n t) s (slice_get (enabled_of s) 0)

-- whether processor p is at this place of the program that it runs
abbrev pub is_at : ℕ → ℕ → State → Bool
is_at p place s = option_map_or (λ c. c.place == place) (processor_at s p) false

-- whether a state is where such steps are to end
abbrev pub is_met : Aim → State → Bool
is_met Nowhere s = false
is_met (At p place) s = is_at p place s

-- whether there is a processor p
abbrev pub has_processor : ℕ → State → Bool
has_processor p s = nat_lt p (length s.processors)

-- The steps up to where processor p is at a place. Where there is no such processor, the one step is its own, which is refused.
abbrev pub steps_until : ℕ → ℕ → State → List Step
steps_until p place s = if has_processor p s then steps_to (is_met (At p place)) most_steps s else Exec p ∷ []

-- a processor runs an instruction, as often as a line may have it
unfoldable pub runs_of : ℕ → List Step
runs_of p = replicate most_steps (Exec p)
