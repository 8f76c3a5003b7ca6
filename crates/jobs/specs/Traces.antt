-- What steps show, one after another, as a person reads it.
use Rattle.std.specs.Prelude.{Result, Ok, Err, List, [], ◌∷◌, ◌++◌, codes}
use Rattle.lines_layout.specs.Layouts.{NamedLines}
use Rattle.lines_layout.specs.Names.{Text}
use Rattle.machine.specs.declared.step.Step.{Step}
use Rattle.machine.specs.declared.step.Seen.{Seen}
use Rattle.machine.specs.declared.step.Seen.TheVariants.{Ran}
use Rattle.machine.specs.declared.refusal.Refusal.{Refusal}
use Rattle.machine.specs.RefusalTexts.{refusal_text}
use Rattle.machine.specs.State.{State}
use Rattle.machine.specs.Steps.{step_of}
use Rattle.commands.specs.SeenTexts.{act_text, seen_text}
use Rattle.commands.specs.StateTexts.{placed_lines}
use Rattle.commands.specs.TriedTexts.{tried_text}

-- an attempt: a step, and the state in which it is tried
pub record Attempt : Type 0 where
  pub before : State
  pub step : Step

-- the attempts after one: none where its step is refused
abbrev pub attempts_after : Result (Seen × State) Refusal → (State → List Attempt) → List Attempt
attempts_after (Ok done) later = later done.1
attempts_after (Err refusal) later = []

-- the steps are tried one after another, up to the first refusal or the end
abbrev pub attempts_of : List Step → State → List Attempt
attempts_of [] s = []
attempts_of (step ∷ steps) s = record { before = s; step = step } ∷ attempts_after (step_of s step) (attempts_of steps)

-- what an accepted step showed; of an Exec only what the instruction did
abbrev pub shown_text : NamedLines → Seen → Text
shown_text names (Ran p place act) = act_text names act
shown_text names seen = seen_text names seen

-- what a step showed, or why it was refused
abbrev pub outcome_text : NamedLines → Result (Seen × State) Refusal → Text
outcome_text names (Ok done) = shown_text names done.0
outcome_text names (Err refusal) = refusal_text refusal

-- what is tried in a state, and what comes of it
abbrev pub attempt_text : NamedLines → Attempt → Text
attempt_text names attempt = tried_text names attempt.before attempt.step ++ (codes ": " ++ outcome_text names (step_of attempt.before attempt.step))

-- a line for each attempt, with its number from 0
abbrev pub trace_text : NamedLines → List Step → State → Text
trace_text names steps s = placed_lines [] (attempt_text names) 0 (attempts_of steps s)
