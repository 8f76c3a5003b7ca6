-- The steps that a state accepts, and what each of them would show, as a person reads it.
use Rattle.std.specs.Prelude.{Bool, true, false, List, [], ◌∷◌, ◌++◌}
use Rattle.std.specs.List.{filter, flat_map}
use Rattle.lines_layout.specs.Layouts.{NamedLines}
use Rattle.lines_layout.specs.Names.{Text}
use Rattle.machine.specs.declared.step.Step.{Step}
use Rattle.machine.specs.declared.step.Step.TheVariants.{Crash}
use Rattle.machine.specs.Accepted.{accepts}
use Rattle.machine.specs.State.{State}
use Rattle.schedule.specs.Enabled.{enabled_of, possible_steps}
use Rattle.commands.specs.StateTexts.{end_of_line}
use Rattle.commands.specs.declared.status.Status.{Status}
use Rattle.commands.specs.declared.status.Status.TheVariants.{Done, Unmet}
use Rattle.jobs.specs.Traces.{attempt_text}

-- the steps that a state accepts: those that are enabled, in the order of schedules, and then the crash
abbrev pub accepted_steps : State → List Step
accepted_steps s = enabled_of s ++ filter (accepts s) (Crash ∷ [])

-- the steps that name what is there, whether the state accepts them or not, in the same order
abbrev pub named_steps : State → List Step
named_steps s = possible_steps s ++ Crash ∷ []

-- the steps that are reported: those that the state accepts, or, where the refused ones are asked for too, all of these
abbrev pub next_steps : Bool → State → List Step
next_steps false s = accepted_steps s
next_steps true s = named_steps s

-- what a step would show, or why it is refused: its line of a trace that comes to this state, without its place there
abbrev pub next_line : NamedLines → State → Step → Text
next_line names s step = attempt_text names (record { before = s; step = step }) ++ end_of_line

-- a line for each of some steps
abbrev pub next_lines : NamedLines → State → List Step → Text
next_lines names s steps = flat_map (next_line names s) steps

-- the status for the steps that are enabled
abbrev pub enabled_status : List Step → Status
enabled_status [] = Unmet
enabled_status (step ∷ steps) = Done

-- the status of a state: whether it accepts a step that is no crash
abbrev pub next_status : State → Status
next_status s = enabled_status (enabled_of s)
