-- Each accepted step of a run has its line.
use Rattle.std.proofs.Common.{◌≡◌, ℕ, zero, suc, Option, Some, None, Result, Ok, Err, List, [], ◌∷◌, length, ap, refl, sym}
use Rattle.std.specs.Prelude.{slice_get}
use Rattle.machine.specs.declared.refusal.Refusal.{Refusal}
use Rattle.machine.specs.declared.step.Seen.{Seen}
use Rattle.machine.specs.declared.step.Step.{Step}
use Rattle.machine.specs.State.{State}
use Rattle.machine.specs.Steps.{end_after, run_of, step_of}
use Rattle.litmus_text.specs.TextLines.{TextLines}
use Rattle.json_texts.specs.StepLines.{IsLineOfStep, lines_behind, step_line, step_lines}

module _ (lines : TextLines) where
  count_later : (steps : List Step) (s : State) (r : Result (Seen × State) Refusal)
      → ((t : State) → (run_of steps t).refusal ≡ None → length (step_lines lines steps t) ≡ length steps)
      → (end_after s r (run_of steps)).refusal ≡ None → suc (length (lines_behind r (step_lines lines steps))) ≡ suc (length steps)
  count_later steps s (Ok done) later none = ap suc (later done.1 none)
  count_later steps s (Err refusal) later none = absurd cc

  -- there are as many as steps, where all are accepted
  pub lines_count : (steps : List Step) (s : State) → (run_of steps s).refusal ≡ None → length (step_lines lines steps s) ≡ length steps
  lines_count [] s none = refl
  lines_count (step ∷ steps) s none = count_later steps s (step_of s step) (lines_count steps) none

  line_later : (step : Step) (steps : List Step) (s : State) (i : ℕ) (line : Option ℕ) (r : Result (Seen × State) Refusal) → step_of s step ≡ r
      → ((t : State) → slice_get (step_lines lines steps t) i ≡ Some line → IsLineOfStep lines steps t i line)
      → slice_get (lines_behind r (step_lines lines steps)) i ≡ Some line → IsLineOfStep lines (step ∷ steps) s (suc i) line
  line_later step steps s i line (Ok done) made later there = let h = later done.1 there in (h.0, h.1, rw made h.2)
  line_later step steps s i line (Err refusal) made later there = absurd cc

  -- each is that of its step
  pub line_there : (steps : List Step) (s : State) (i : ℕ) (line : Option ℕ) → slice_get (step_lines lines steps s) i ≡ Some line → IsLineOfStep lines steps s i line
  line_there [] s i line there = absurd cc
  line_there (step ∷ steps) s zero line there = let first : step_line lines s step ≡ line = cc in (step, refl, sym first)
  line_there (step ∷ steps) s (suc i) line there = line_later step steps s i line (step_of s step) refl (λ t. line_there steps t i line) there
