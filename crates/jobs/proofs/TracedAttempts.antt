-- The attempts of a trace are the steps of a run, and each has its line.
use Rattle.std.proofs.Common.{◌≡◌, ◌∙◌, ℕ, zero, suc, ◌+◌, ◌<◌, Option, Some, None, Result, Ok, Err, List, [], ◌∷◌, ◌++◌, length, take, ap, append_assoc, add-one, arith, refl, sym}
use Rattle.std.specs.Prelude.{codes, decimal, slice_get}
use Rattle.lines_layout.specs.Layouts.{NamedLines}
use Rattle.lines_layout.specs.Names.{Text}
use Rattle.machine.specs.State.{State}
use Rattle.machine.specs.Steps.{end_after, run_of, step_of}
use Rattle.machine.specs.declared.step.Seen.{Seen}
use Rattle.machine.specs.declared.step.Step.{Step}
use Rattle.machine.specs.declared.refusal.Refusal.{Refusal}
use Rattle.commands.specs.StateTexts.{end_of_line, placed_lines}
use Rattle.commands.specs.TriedTexts.{tried_text}
use Rattle.jobs.specs.Traces.{Attempt, shown_text, attempt_text, attempts_after, attempts_of}

-- ---- one line more

module _ (names : NamedLines) (i : ℕ) (step : Step) (later : List Step) (s : State) (text : Text) where
  abbrev lines_from : ℕ → List Attempt → Text
  lines_from n attempts = placed_lines [] (attempt_text names) n attempts

  line_made : (seen : Seen) (t : State) → step_of s step ≡ Ok (seen, t)
      → (text ++ decimal i ++ codes " " ++ tried_text names s step ++ codes ": " ++ shown_text names seen ++ end_of_line) ++ lines_from (i + 1) (attempts_of later t)
      ≡ text ++ lines_from i (attempts_of (step ∷ later) s)
  line_made seen t made = rw made (simp append_assoc refl)

  -- the line of an accepted step is written, and the others are to be
  pub text_more : (steps : List Step) (seen : Seen) (t : State) (new total : Text) → steps ≡ step ∷ later → step_of s step ≡ Ok (seen, t)
      → new ≡ text ++ decimal i ++ codes " " ++ tried_text names s step ++ codes ": " ++ shown_text names seen ++ end_of_line
      → text ++ lines_from i (attempts_of steps s) ≡ total → new ++ lines_from (i + 1) (attempts_of later t) ≡ total
  text_more steps seen t new total parts made said before =
      ap (λ (x : Text). x ++ lines_from (i + 1) (attempts_of later t)) said ∙ line_made seen t made
      ∙ ap (λ (xs : List Step). text ++ lines_from i (attempts_of xs s)) (sym parts) ∙ before

-- the refusal of a run behind an accepted step
pub refusal_later : (step : Step) (later steps : List Step) (s t : State) (seen : Seen) (refusal : Option Refusal) → steps ≡ step ∷ later
    → step_of s step ≡ Ok (seen, t) → (run_of steps s).refusal ≡ refusal → (run_of later t).refusal ≡ refusal
refusal_later step later steps s t seen refusal parts made before =
    let on : (run_of (step ∷ later) s).refusal ≡ (run_of later t).refusal = rw made refl in
    sym on ∙ ap (λ (xs : List Step). (run_of xs s).refusal) (sym parts) ∙ before

-- ---- attempts and runs

-- attempt i is step i, in the state after the first i steps
abbrev pub IsAttemptOf : List Step → State → ℕ → Attempt → Type 0
IsAttemptOf steps s i attempt = (slice_get steps i ≡ Some attempt.step) × (attempt.before ≡ (run_of (take i steps) s).state)

later_attempt : (step : Step) (steps : List Step) (s : State) (i : ℕ) (attempt : Attempt) (r : Result (Seen × State) Refusal) → step_of s step ≡ r
    → ((t : State) → slice_get (attempts_of steps t) i ≡ Some attempt → IsAttemptOf steps t i attempt)
    → slice_get (attempts_after r (attempts_of steps)) i ≡ Some attempt → IsAttemptOf (step ∷ steps) s (suc i) attempt
later_attempt step steps s i attempt (Ok done) made later there = let h = later done.1 there in (h.0, rw made h.1)
later_attempt step steps s i attempt (Err refusal) made later there = absurd cc

pub attempt_there : (steps : List Step) (s : State) (i : ℕ) (attempt : Attempt) → slice_get (attempts_of steps s) i ≡ Some attempt → IsAttemptOf steps s i attempt
attempt_there [] s i attempt there = absurd cc
attempt_there (step ∷ steps) s zero attempt there =
    let first : ◌≡◌ {A = Attempt} (record { before = s; step = step }) attempt = cc in
    (ap (λ (t : Attempt). Some t.step) first, sym (ap (λ (t : Attempt). t.before) first))
attempt_there (step ∷ steps) s (suc i) attempt there = later_attempt step steps s i attempt (step_of s step) refl (λ t. attempt_there steps t i attempt) there

-- how many attempts a run of so many accepted steps has
abbrev count_with : Option Refusal → ℕ → ℕ
count_with None accepted = accepted
count_with (Some refusal) accepted = accepted + 1

one_more : (refusal : Option Refusal) (n : ℕ) → suc (count_with refusal n) ≡ count_with refusal (n + 1)
one_more None n = omega arith
one_more (Some refusal) n = omega arith

count_later : (step : Step) (steps : List Step) (s : State) (r : Result (Seen × State) Refusal)
    → ((t : State) → length (attempts_of steps t) ≡ count_with (run_of steps t).refusal (run_of steps t).accepted)
    → suc (length (attempts_after r (attempts_of steps))) ≡ count_with (end_after s r (run_of steps)).refusal (end_after s r (run_of steps)).accepted
count_later step steps s (Ok done) later = ap suc (later done.1) ∙ one_more (run_of steps done.1).refusal (run_of steps done.1).accepted
count_later step steps s (Err refusal) later = refl

count_of_attempts : (steps : List Step) (s : State) → length (attempts_of steps s) ≡ count_with (run_of steps s).refusal (run_of steps s).accepted
count_of_attempts [] s = refl
count_of_attempts (step ∷ steps) s = count_later step steps s (step_of s step) (count_of_attempts steps)

pub count_whole : (steps : List Step) (s : State) → (run_of steps s).refusal ≡ None → length (attempts_of steps s) ≡ (run_of steps s).accepted
count_whole steps s none = count_of_attempts steps s ∙ ap (λ (r : Option Refusal). count_with r (run_of steps s).accepted) none

pub count_refused : (steps : List Step) (s : State) (refusal : Refusal) → (run_of steps s).refusal ≡ Some refusal → length (attempts_of steps s) ≡ (run_of steps s).accepted + 1
count_refused steps s refusal some = count_of_attempts steps s ∙ ap (λ (r : Option Refusal). count_with r (run_of steps s).accepted) some

-- a attempt before the end of a run is accepted
abbrev pub IsMade : Attempt → Type 0
IsMade attempt = (seen : Seen) × (t : State) × (step_of attempt.before attempt.step ≡ Ok (seen, t))

made_later : (steps : List Step) (s : State) (i : ℕ) (attempt : Attempt) (r : Result (Seen × State) Refusal)
    → ((t : State) → slice_get (attempts_of steps t) i ≡ Some attempt → i < (run_of steps t).accepted → IsMade attempt)
    → slice_get (attempts_after r (attempts_of steps)) i ≡ Some attempt → suc i < (end_after s r (run_of steps)).accepted → IsMade attempt
made_later steps s i attempt (Ok done) later there below = later done.1 there (omega (arith, below))
made_later steps s i attempt (Err refusal) later there below = absurd cc

made_first : (step : Step) (steps : List Step) (s : State) (attempt : Attempt) (r : Result (Seen × State) Refusal) → step_of s step ≡ r
    → ◌≡◌ {A = Attempt} (record { before = s; step = step }) attempt → 0 < (end_after s r (run_of steps)).accepted → IsMade attempt
made_first step steps s attempt (Ok done) made first below = (done.0, done.1, ap (λ (t : Attempt). step_of t.before t.step) (sym first) ∙ made)
made_first step steps s attempt (Err refusal) made first below = absurd (omega (arith, below))

pub attempt_made : (steps : List Step) (s : State) (i : ℕ) (attempt : Attempt) → slice_get (attempts_of steps s) i ≡ Some attempt → i < (run_of steps s).accepted → IsMade attempt
attempt_made [] s i attempt there below = absurd cc
attempt_made (step ∷ steps) s zero attempt there below = let first : ◌≡◌ {A = Attempt} (record { before = s; step = step }) attempt = cc in made_first step steps s attempt (step_of s step) refl first below
attempt_made (step ∷ steps) s (suc i) attempt there below = made_later steps s i attempt (step_of s step) (λ t. attempt_made steps t i attempt) there below

-- the attempt at the end of a run that is refused is refused so
last_on : (step : Step) (steps : List Step) (s : State) (refusal : Refusal) (attempt : Attempt) (r : Result (Seen × State) Refusal) → step_of s step ≡ r
    → ((t : State) → (run_of steps t).refusal ≡ Some refusal → slice_get (attempts_of steps t) (run_of steps t).accepted ≡ Some attempt → step_of attempt.before attempt.step ≡ Err refusal)
    → (end_after s r (run_of steps)).refusal ≡ Some refusal
    → slice_get (record { before = s; step = step } ∷ attempts_after r (attempts_of steps)) (end_after s r (run_of steps)).accepted ≡ Some attempt
    → step_of attempt.before attempt.step ≡ Err refusal
last_on step steps s refusal attempt (Ok done) made later refused there = later done.1 refused (rw add-one at there)
last_on step steps s refusal attempt (Err other) made later refused there =
    let first : ◌≡◌ {A = Attempt} (record { before = s; step = step }) attempt = cc in
    let same : other ≡ refusal = cc in
    ap (λ (t : Attempt). step_of t.before t.step) (sym first) ∙ made ∙ ap (λ (x : Refusal). Err x) same

pub last_refused : (steps : List Step) (s : State) (refusal : Refusal) (attempt : Attempt) → (run_of steps s).refusal ≡ Some refusal
    → slice_get (attempts_of steps s) (run_of steps s).accepted ≡ Some attempt → step_of attempt.before attempt.step ≡ Err refusal
last_refused [] s refusal attempt refused there = absurd cc
last_refused (step ∷ steps) s refusal attempt refused there = last_on step steps s refusal attempt (step_of s step) refl (λ t. last_refused steps t refusal attempt) refused there
