-- Lists of steps as text.
use Rattle.std.specs.Prelude.{◌≡◌, ℕ, ◌+◌, true, not, if◌then◌else◌, Option, Some, None, Result, Ok, Err, List, [], ◌∷◌, ◌++◌, length, bytes_eq, codes}
use Rattle.std.specs.Fmt.{decimal}
use Rattle.std.specs.Global.{Vec}
use Rattle.std.specs.List.{AllByRecursion, AllZip, cons_option, filter_map}
use Rattle.std.specs.Result.{result_map_both}
use Rattle.machine.specs.declared.step.Step.{Step}
use Rattle.machine.specs.declared.step.Step.TheVariants.{Exec, Drain, Persist, Settle, Crash}
use Rattle.text_tokens.specs.Text.{lines_of, tokens_of, is_plain_line}
use Rattle.text_tokens.specs.Numbers.{small_number_of}
use Rattle.outcomes.specs.Calls.{Answers}
use Rattle.outcomes.specs.Outcomes.{◌>>=◌, refuse, required, refused_as}
use Rattle.schedule.specs.declared.step_text.BadStep.{BadStep}
use Rattle.schedule.specs.declared.step_text.StepsFault.{StepsFault}
use Rattle.schedule.specs.declared.step_text.StepsFault.TheVariants.{BadLine, NoMemory}
use Rattle.text_tokens.specs.Cursors.{Token, token_at, end_at}
use Rattle.text_tokens.specs.declared.token.Tokens.{Tokens}

-- the tokens that are left to take
abbrev pub left_of : Tokens → List Token
left_of tokens = tokens_of tokens.rest.now

-- the one fault of a line
abbrev pub bad_step : BadStep
bad_step = record {}

-- NUMBER
unfoldable pub number_at : List Token → Result (ℕ × List Token) BadStep
number_at tokens = do
  token ← token_at bad_step tokens
  n ← required bad_step (small_number_of token.0)
  Ok (n, token.1)

-- the step whose first token is this one
unfoldable pub step_at : Token → List Token → Result (Step × List Token) BadStep
step_at first tokens =
    if bytes_eq first (codes "exec") then (number_at tokens >>= λ p. Ok (Exec p.0, p.1))
    else if bytes_eq first (codes "drain") then (number_at tokens >>= λ p. number_at p.1 >>= λ i. Ok (Drain p.0 i.0, i.1))
    else if bytes_eq first (codes "persist") then (number_at tokens >>= λ g. Ok (Persist g.0, g.1))
    else if bytes_eq first (codes "settle") then Ok (Settle, tokens)
    else if bytes_eq first (codes "crash") then Ok (Crash, tokens)
    else Err bad_step

-- the step that all the tokens of a line say; a line without tokens says none
unfoldable pub step_of : List Token → Result (Option Step) BadStep
step_of [] = Ok None
step_of (first ∷ tokens) = do
  step ← step_at first tokens
  end ← end_at bad_step step.1
  Ok (Some step.0)

-- the step of a line
unfoldable pub step_on : List ℕ → Result (Option Step) BadStep
step_on line = do
  plain ← refuse bad_step (not (is_plain_line line))
  step_of (tokens_of line)

-- the steps of lines, of which the first has the number n, or the number of the first bad line
unfoldable pub steps_from : ℕ → List (List ℕ) → Result (List Step) ℕ
steps_from n [] = Ok []
steps_from n (line ∷ lines) = do
  step ← refused_as (λ bad. n) (step_on line)
  others ← steps_from (n + 1) lines
  Ok (cons_option step others)

-- the steps that a text says, or the number of its first bad line; lines are counted from 1
abbrev pub steps_of : List ℕ → Result (List Step) ℕ
steps_of text = steps_from 1 (lines_of text)

-- the tokens of a line that says this step
abbrev pub IsForm : List Token → Step → Type 0
IsForm tokens (Exec p) = (number : Token) × (tokens ≡ codes "exec" ∷ number ∷ []) × (small_number_of number ≡ Some p)
IsForm tokens (Drain p i) = (number place : Token) × (tokens ≡ codes "drain" ∷ number ∷ place ∷ []) × (small_number_of number ≡ Some p) × (small_number_of place ≡ Some i)
IsForm tokens (Persist g) = (number : Token) × (tokens ≡ codes "persist" ∷ number ∷ []) × (small_number_of number ≡ Some g)
IsForm tokens Settle = tokens ≡ codes "settle" ∷ []
IsForm tokens Crash = tokens ≡ codes "crash" ∷ []

-- a plain line says no step, if it has no tokens, or the step of whose form its tokens are
abbrev pub Says : List ℕ → Option Step → Type 0
Says line None = (is_plain_line line ≡ true) × (tokens_of line ≡ [])
Says line (Some step) = (is_plain_line line ≡ true) × IsForm (tokens_of line) step

-- lines that each say a step or none; the steps, in order, are the list
pub record IsStepList (lines : List (List ℕ)) (steps : List Step) : Type 0 where
  pub said : List (Option Step)
  pub each : AllZip Says lines said
  pub list : steps ≡ filter_map (λ step. step) said

-- a text of which each line says a step or none; the steps, in order, are the list
abbrev pub IsTextOf : List ℕ → List Step → Type 0
IsTextOf text steps = IsStepList (lines_of text) steps

-- a line of a list of steps
abbrev pub IsStepLine : List ℕ → Type 0
IsStepLine line = (step : Option Step) × Says line step

-- line n, counted from 1, is the lowest that is no line of a list of steps
pub record IsLowestBadLine (lines : List (List ℕ)) (n : ℕ) : Type 0 where
  pub before : List (List ℕ)
  pub line : List ℕ
  pub others : List (List ℕ)
  pub parts : lines ≡ before ++ line ∷ others
  pub number : n ≡ length before + 1
  pub good : AllByRecursion IsStepLine before
  pub bad : ¬ IsStepLine line

-- the line of a text with this number is the lowest that is no line of a list of steps
abbrev pub IsBadLineOf : List ℕ → ℕ → Type 0
IsBadLineOf text n = IsLowestBadLine (lines_of text) n

-- the number of the bad line that a fault stands for, None where memory ran out
abbrev pub bad_line_in : StepsFault → Option ℕ
bad_line_in (BadLine n) = Some n
bad_line_in NoMemory = None

-- A call answers the steps that a text says, or the number of its first bad line, unless memory ran out.
abbrev pub IsReadOf : List ℕ → Result (Vec Step) StepsFault → Type 0
IsReadOf text read = Answers bad_line_in (steps_of text) (result_map_both (λ steps. steps.items) (λ fault. fault) read)

-- what is printed of a fault
abbrev pub fault_text : StepsFault → List ℕ
fault_text (BadLine n) = codes "S1 BadLine " ++ decimal n
fault_text NoMemory = codes "S2 NoMemory"
