-- One more line of a list of steps.
use Rattle.std.proofs.Common.{◌≡◌, ℕ, ◌+◌, Some, None, Result, Ok, Err, List, [], ◌∷◌, ◌++◌, sym, ◌∙◌, ap, refl, append_assoc, append-nil}
use Rattle.std.specs.List.{cons_option}
use Rattle.machine.specs.declared.step.Step.{Step}
use Rattle.outcomes.specs.Outcomes.{◌>>=◌}
use Rattle.schedule.specs.declared.step_text.BadStep.{BadStep}
use Rattle.schedule.specs.StepTexts.{step_on, steps_from}

-- more steps in front of those that were read
abbrev pub with_front : List Step → Result (List Step) ℕ → Result (List Step) ℕ
with_front front (Ok steps) = Ok (front ++ steps)
with_front front (Err n) = Err n

more_blank : (front : List Step) (read : Result (List Step) ℕ) → with_front front (read >>= λ others. Ok (cons_option None others)) ≡ with_front front read
more_blank front (Ok steps) = refl
more_blank front (Err n) = refl

more_steps : (front : List Step) (step : Step) (read : Result (List Step) ℕ) → with_front front (read >>= λ others. Ok (cons_option (Some step) others)) ≡ with_front (front ++ step ∷ []) read
more_steps front step (Ok steps) = ap (λ (xs : List Step). Ok xs) (sym (append_assoc front (step ∷ []) steps))
more_steps front step (Err n) = refl

module _ (front : List Step) (n : ℕ) (lines : List (List ℕ)) (total : Result (List Step) ℕ)
    (so_far : with_front front (steps_from n lines) ≡ total) where
  pub at_end : lines ≡ [] → total ≡ Ok front
  unfolding steps_from
  at_end e =
      let one : with_front front (steps_from n lines) ≡ Ok front = rw e (ap (λ (xs : List Step). Ok xs) (append-nil front)) in
      sym so_far ∙ one

  pub at_bad : (line : List ℕ) (others : List (List ℕ)) (bad : BadStep) → lines ≡ line ∷ others → step_on line ≡ Err bad → total ≡ Err n
  unfolding steps_from
  at_bad line others bad e is_bad =
      let one : with_front front (steps_from n lines) ≡ Err n = rw (e, is_bad) refl in
      sym so_far ∙ one

  pub at_blank : (line : List ℕ) (others : List (List ℕ)) → lines ≡ line ∷ others → step_on line ≡ Ok None → with_front front (steps_from (n + 1) others) ≡ total
  unfolding steps_from
  at_blank line others e blank =
      let one : with_front front (steps_from n lines) ≡ with_front front (steps_from (n + 1) others >>= λ xs. Ok (cons_option None xs)) = rw (e, blank) refl in
      sym (more_blank front (steps_from (n + 1) others)) ∙ sym one ∙ so_far

  pub at_step : (line : List ℕ) (others : List (List ℕ)) (step : Step) → lines ≡ line ∷ others → step_on line ≡ Ok (Some step) → with_front (front ++ step ∷ []) (steps_from (n + 1) others) ≡ total
  unfolding steps_from
  at_step line others step e found =
      let one : with_front front (steps_from n lines) ≡ with_front front (steps_from (n + 1) others >>= λ xs. Ok (cons_option (Some step) xs)) = rw (e, found) refl in
      sym (more_steps front step (steps_from (n + 1) others)) ∙ sym one ∙ so_far

pub ruleset line_steps = (at_end, at_bad, at_blank, at_step)
