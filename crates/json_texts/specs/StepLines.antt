-- The lines of the instructions that steps execute.
use Rattle.std.specs.Prelude.{◌≡◌, ℕ, Option, Some, None, Result, Ok, Err, List, [], ◌∷◌, map, slice_get, take}
use Rattle.std.specs.Option.{option_and_then}
use Rattle.machine.specs.declared.refusal.Refusal.{Refusal}
use Rattle.machine.specs.declared.step.Seen.{Seen}
use Rattle.machine.specs.declared.step.Step.{Step}
use Rattle.machine.specs.declared.step.Step.TheVariants.{Exec}
use Rattle.machine.specs.State.{State, processor_at}
use Rattle.machine.specs.Steps.{run_of, step_of}
use Rattle.json_texts.specs.Objects.{Tree, list, num, or_null}
use Rattle.litmus_text.specs.TextLines.{TextLines, line_at}

-- the line of the instruction that a step executes in a state, if it is an Exec, and the instruction has a line
abbrev pub step_line : TextLines → State → Step → Option ℕ
step_line lines s (Exec p) = option_and_then (λ c. line_at lines p c.recovering c.place) (processor_at s p)
step_line lines s step = None

-- the lines behind a step: none where it is refused
abbrev pub lines_behind : Result (Seen × State) Refusal → (State → List (Option ℕ)) → List (Option ℕ)
lines_behind (Ok done) later = later done.1
lines_behind (Err refusal) later = []

-- the line of each step of a run from a state, up to the first that is refused
abbrev pub step_lines : TextLines → List Step → State → List (Option ℕ)
step_lines lines [] s = []
step_lines lines (step ∷ steps) s = step_line lines s step ∷ lines_behind (step_of s step) (step_lines lines steps)

-- a line, or null
abbrev pub line_data : Option ℕ → Tree
line_data line = or_null num line

-- the same as JSON
abbrev pub step_lines_data : TextLines → List Step → State → Tree
step_lines_data lines steps s = list (map line_data (step_lines lines steps s))

-- This is the line of step i of a run from a state: the step is made in the state after the first i steps.
abbrev pub IsLineOfStep : TextLines → List Step → State → ℕ → Option ℕ → Type 0
IsLineOfStep lines steps s i line =
    (step : Step) × (slice_get steps i ≡ Some step) × (line ≡ step_line lines (run_of (take i steps) s).state step)
