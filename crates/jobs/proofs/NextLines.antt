-- What is reported of a state is what traces tell that come to it, and of the steps that it accepts.
use Rattle.std.proofs.Common.{◌≡◌, ◌∙◌, ℕ, suc, ◌+◌, true, false, inl, inr, ⊎_elim, None, Result, Ok, Err, List, [], ◌∷◌, ◌++◌, length, filter, ap, append_assoc, append-nil, arith, refl, subst, sym}
use Rattle.std.specs.Prelude.{◌⊎◌, codes, decimal}
use Rattle.std.specs.List.{Contains}
use Rattle.std.proofs.lemmas.List.Elements.{Contains-append_cases, Contains-append_left, Contains-append_right, filter-append}
use Rattle.lines_layout.specs.Layouts.{NamedLines}
use Rattle.lines_layout.specs.Names.{Text}
use Rattle.machine.specs.Accepted.{accepts}
use Rattle.machine.specs.State.{State}
use Rattle.machine.specs.Steps.{end_after, run_of, step_of}
use Rattle.machine.specs.declared.step.Seen.{Seen}
use Rattle.machine.specs.declared.step.Step.{Step}
use Rattle.machine.specs.declared.step.Step.TheVariants.{Exec, Drain, Persist, Settle, Crash}
use Rattle.machine.specs.declared.refusal.Refusal.{Refusal}
use Rattle.schedule.specs.Enabled.{IsEnabled, enabled_of, possible_steps}
use Rattle.schedule.proofs.EnabledStepsAreThoseAccepted.{always, here, kept, only, passes}
use Rattle.commands.specs.StateTexts.{end_of_line, placed_lines}
use Rattle.commands.specs.declared.status.Status.TheVariants.{Done, Unmet}
use Rattle.jobs.specs.NextSteps.{enabled_status, next_line, next_status, next_steps}
use Rattle.jobs.specs.Traces.{Attempt, attempt_text, attempts_after, attempts_of, trace_text}

-- ---- the line of a step

none_later : (r : Result (Seen × State) Refusal) → attempts_after r (attempts_of []) ≡ []
none_later (Ok done) = refl
none_later (Err refusal) = refl

module _ (names : NamedLines) (step : Step) where
  abbrev lines_from : ℕ → List Attempt → Text
  lines_from n attempts = placed_lines [] (attempt_text names) n attempts

  -- the line that the step has in state s, behind this many others
  abbrev line_at : ℕ → State → Text
  line_at n s = decimal n ++ codes " " ++ next_line names s step

  -- the lines of a trace that ends with the step are those of the trace without it, and then its line
  abbrev IsLast : List Step → State → ℕ → Type 0
  IsLast steps s i =
      (run_of steps s).refusal ≡ None
      → lines_from i (attempts_of (steps ++ step ∷ []) s) ≡ lines_from i (attempts_of steps s) ++ line_at (i + length steps) (run_of steps s).state

  last_on : (steps : List Step) (s : State) (i n : ℕ) (r : Result (Seen × State) Refusal) → i + 1 + length steps ≡ n → ((t : State) → IsLast steps t (i + 1))
      → (end_after s r (run_of steps)).refusal ≡ None
      → lines_from (i + 1) (attempts_after r (attempts_of (steps ++ step ∷ [])))
      ≡ lines_from (i + 1) (attempts_after r (attempts_of steps)) ++ line_at n (end_after s r (run_of steps)).state
  last_on steps s i n (Ok done) same later none =
      later done.1 none ∙ ap (λ (k : ℕ). lines_from (i + 1) (attempts_of steps done.1) ++ line_at k (run_of steps done.1).state) same
  last_on steps s i n (Err refusal) same later none = absurd cc

  pub last_line : (steps : List Step) (s : State) (i : ℕ) → IsLast steps s i
  last_line [] s i none =
      let number = decimal i ++ codes " " in
      let text = attempt_text names (record { before = s; step = step }) in
      let whole = number ++ text ++ end_of_line in
      let place : i ≡ i + 0 = omega arith in
      ap (λ (later : List Attempt). whole ++ lines_from (i + 1) later) (none_later (step_of s step))
      ∙ append-nil whole ∙ append_assoc number text end_of_line ∙ ap (λ (n : ℕ). line_at n s) place
  last_line (first ∷ steps) s i none =
      let place : i + 1 + length steps ≡ i + suc (length steps) = omega arith in
      let line = decimal i ++ codes " " ++ attempt_text names (record { before = s; step = first }) ++ end_of_line in
      let r = step_of s first in
      let others = lines_from (i + 1) (attempts_after r (attempts_of steps)) in
      ap (λ (x : Text). line ++ x) (last_on steps s i (i + suc (length steps)) r place (λ t. last_line steps t (i + 1)) none)
      ∙ sym (append_assoc line others (line_at (i + suc (length steps)) (end_after s r (run_of steps)).state))

-- the same of a whole trace
pub traced_line : (names : NamedLines) (steps : List Step) (step : Step) (s : State) → (run_of steps s).refusal ≡ None
    → trace_text names (steps ++ step ∷ []) s ≡ trace_text names steps s ++ decimal (length steps) ++ codes " " ++ next_line names (run_of steps s).state step
traced_line names steps step s none =
    let before = trace_text names steps s in
    let number = decimal (length steps) in
    let line = next_line names (run_of steps s).state step in
    let place : 0 + length steps ≡ length steps = omega arith in
    last_line names step steps s 0 none ∙ ap (λ (n : ℕ). before ++ (decimal n ++ codes " " ++ line)) place
    ∙ sym (append_assoc before (number ++ codes " ") line) ∙ ap (λ (x : Text). x ++ line) (sym (append_assoc before number (codes " ")))

-- ---- which steps have a line

-- an accepted step is the crash, or one that is enabled
crash_or_enabled : (s : State) (step : Step) → accepts s step ≡ true → (step ≡ Crash) ⊎ Contains (enabled_of s) step
crash_or_enabled s (Exec p) is = inr (always s (Exec p) is (λ e. absurd (cc e)))
crash_or_enabled s (Drain p i) is = inr (always s (Drain p i) is (λ e. absurd (cc e)))
crash_or_enabled s (Persist line) is = inr (always s (Persist line) is (λ e. absurd (cc e)))
crash_or_enabled s Settle is = inr (always s Settle is (λ e. absurd (cc e)))
crash_or_enabled s Crash is = inl refl

pub lines_of_accepted : (s : State) (step : Step) → Contains (next_steps false s) step → accepts s step ≡ true
lines_of_accepted s step there = ⊎_elim (λ enabled. (passes (accepts s) (possible_steps s) step enabled).0) (λ crash. (passes (accepts s) (Crash ∷ []) step crash).0)
    (Contains-append_cases (enabled_of s) (filter (accepts s) (Crash ∷ [])) step there)

pub accepted_have_lines : (s : State) (step : Step) → accepts s step ≡ true → Contains (next_steps false s) step
accepted_have_lines s step is = ⊎_elim
    (λ (crash : step ≡ Crash). Contains-append_right (enabled_of s) (filter (accepts s) (Crash ∷ [])) step
    (kept (accepts s) (Crash ∷ []) step is (subst (λ (x : Step). Contains (Crash ∷ []) x) (sym crash) (here Crash []))))
    (λ enabled. Contains-append_left (enabled_of s) (filter (accepts s) (Crash ∷ [])) step enabled) (crash_or_enabled s step is)

pub accepted_among_named : (s : State) → filter (accepts s) (next_steps true s) ≡ next_steps false s
accepted_among_named s = filter-append (accepts s) (possible_steps s) (Crash ∷ [])

-- ---- the status

some_enabled : (s : State) (steps : List Step) → steps ≡ enabled_of s → enabled_status steps ≡ Done → (step : Step) × IsEnabled s step
some_enabled s [] are done = absurd cc
some_enabled s (step ∷ steps) are done = (step, only s step (subst (λ (xs : List Step). Contains xs step) are (here step steps)))

pub done_where_enabled : (s : State) → next_status s ≡ Done → (step : Step) × IsEnabled s step
done_where_enabled s done = some_enabled s (enabled_of s) refl done

none_enabled : (s : State) (steps : List Step) (step : Step) → steps ≡ enabled_of s → enabled_status steps ≡ Unmet → Contains (enabled_of s) step → step ≡ Crash
none_enabled s [] step are unmet there = let h = subst (λ (xs : List Step). Contains xs step) (sym are) there in absurd (omega (arith, h.1))
none_enabled s (first ∷ steps) step are unmet there = absurd cc

pub unmet_where_crash_alone : (s : State) (step : Step) → next_status s ≡ Unmet → accepts s step ≡ true → step ≡ Crash
unmet_where_crash_alone s step unmet is = ⊎_elim (λ (crash : step ≡ Crash). crash) (λ there. none_enabled s (enabled_of s) step refl unmet there) (crash_or_enabled s step is)
