-- A text is a list of steps just where its lines are, and its fault is the lowest line that is none.
use Rattle.std.proofs.Common.{◌≡◌, ℕ, ◌+◌, ◌⊎◌, Option, Result, Ok, Err, List, [], ◌∷◌, ◌++◌, length, refl, sym, ap, ◌∙◌, arith, inl, inr}
use Rattle.std.specs.List.{AllByRecursion, AllZip, cons_option, filter_map}
use Rattle.machine.specs.declared.step.Step.{Step}
use Rattle.text_tokens.specs.Text.{lines_of}
use Rattle.outcomes.specs.Outcomes.{◌>>=◌}
use Rattle.outcomes.proofs.PartsOfOutcomes.{bind_ok}
use Rattle.schedule.specs.declared.step_text.BadStep.{BadStep}
use Rattle.schedule.specs.StepTexts.{IsLowestBadLine, IsStepLine, IsStepList, Says, bad_step, step_on, steps_from, steps_of}
use Rattle.text_tokens.proofs.TestsThatPassed.{same_ok}
use Rattle.schedule.proofs.StepLinesAreRead.{only_says, says_is_read}

-- a line says something, or is a bad one
cases_line : (line : List ℕ) → ((step : Option Step) × Says line step × (step_on line ≡ Ok step)) ⊎ ((step_on line ≡ Err bad_step) × ¬ IsStepLine line)
cases_line line = by_answer (step_on line) refl
  where
    by_answer : (read : Result (Option Step) BadStep) → step_on line ≡ read → ((step : Option Step) × Says line step × (step_on line ≡ Ok step)) ⊎ ((step_on line ≡ Err bad_step) × ¬ IsStepLine line)
    by_answer (Ok step) e = inl (step, only_says line step e, e)
    by_answer (Err bad) e = inr (e, λ (said : IsStepLine line). let read = says_is_read line said.0 said.1 in let wrong : Ok said.0 ≡ Err bad = sym read ∙ e in cc)

list_from : (lines : List (List ℕ)) (said : List (Option Step)) (n : ℕ) → AllZip Says lines said → steps_from n lines ≡ Ok (filter_map (λ step. step) said)
unfolding steps_from
list_from [] [] n each = refl
list_from [] (step ∷ said) n each = absurd each
list_from (line ∷ lines) [] n each = absurd each
list_from (line ∷ lines) (step ∷ said) n each = rw (says_is_read line step each.0, list_from lines said (n + 1) each.1) refl

only_list_from : (lines : List (List ℕ)) (n : ℕ) (steps : List Step) → steps_from n lines ≡ Ok steps → IsStepList lines steps
unfolding steps_from
only_list_from [] n steps e = record { said = []; each = tt; list = sym (same_ok {E = ℕ} [] steps e) }
only_list_from (line ∷ lines) n steps e =
    elim (cases_line line) [
      | inl good ↦
          let a = bind_ok (steps_from (n + 1) lines) (λ others. Ok (cons_option good.0 others)) steps (rw good.2 at e) in
          let behind = only_list_from lines (n + 1) a.0 a.1 in
          record {
            said = good.0 ∷ behind.said;
            each = (good.1, behind.each);
            list = sym (same_ok {E = ℕ} (cons_option good.0 a.0) steps a.2) ∙ ap (cons_option good.0) behind.list;
          }
      | inr bad ↦ let wrong = rw bad.0 at e in absurd cc
    ]

-- the lowest bad line of lines of which the first has the number n
abbrev IsLowestFrom : ℕ → List (List ℕ) → ℕ → Type 0
IsLowestFrom n lines m = (before : List (List ℕ)) × (line : List ℕ) × (others : List (List ℕ))
    × (lines ≡ before ++ line ∷ others) × (m ≡ length before + n) × AllByRecursion IsStepLine before × ¬ IsStepLine line

bad_from : (before : List (List ℕ)) (line : List ℕ) (others : List (List ℕ)) (n : ℕ) → AllByRecursion IsStepLine before → ¬ IsStepLine line
    → steps_from n (before ++ line ∷ others) ≡ Err (length before + n)
unfolding steps_from
bad_from [] line others n good bad =
    elim (cases_line line) [
      | inl says ↦ absurd (bad (says.0, says.1))
      | inr is_bad ↦ let number : n ≡ 0 + n = omega arith in rw is_bad.0 (ap (λ (k : ℕ). Err k) number)
    ]
bad_from (first ∷ before) line others n good bad =
    let number : length before + (n + 1) ≡ length (first ∷ before) + n = omega arith in
    rw (says_is_read first good.0.0 good.0.1, bad_from before line others (n + 1) good.1 bad) (ap (λ (k : ℕ). Err k) number)

only_bad_from : (lines : List (List ℕ)) (n m : ℕ) → steps_from n lines ≡ Err m → IsLowestFrom n lines m
unfolding steps_from
only_bad_from [] n m e = absurd cc
only_bad_from (line ∷ lines) n m e =
    elim (cases_line line) [
      | inl good ↦
          let behind = only_bad_from lines (n + 1) m (bind_err (steps_from (n + 1) lines) (cons_option good.0) m (rw good.2 at e)) in
          (line ∷ behind.0, behind.1, behind.2, ap (λ (ls : List (List ℕ)). line ∷ ls) behind.3, omega arith, ((good.0, good.1), behind.5), behind.6)
      | inr bad ↦
          let same = rw bad.0 at e in
          let number : n ≡ m = cc in
          ([], line, lines, refl, omega arith, tt, bad.1)
    ]
  where
    bind_err : (read : Result (List Step) ℕ) (f : List Step → List Step) (m : ℕ) → (read >>= λ others. Ok (f others)) ≡ Err m → read ≡ Err m
    bind_err (Ok steps) f m e = absurd cc
    bind_err (Err k) f m e = e

module _ (text : List ℕ) where
  pub list_is_read : (steps : List Step) → IsStepList (lines_of text) steps → steps_of text ≡ Ok steps
  list_is_read steps h = list_from (lines_of text) h.said 1 h.each ∙ ap (λ (xs : List Step). Ok xs) (sym h.list)

  pub only_list : (steps : List Step) → steps_of text ≡ Ok steps → IsStepList (lines_of text) steps
  only_list steps e = only_list_from (lines_of text) 1 steps e

  pub bad_is_told : (n : ℕ) → IsLowestBadLine (lines_of text) n → steps_of text ≡ Err n
  bad_is_told n h = ap (steps_from 1) h.parts ∙ bad_from h.before h.line h.others 1 h.good h.bad ∙ ap (λ (k : ℕ). Err k) (sym h.number)

  pub only_bad : (n : ℕ) → steps_of text ≡ Err n → IsLowestBadLine (lines_of text) n
  only_bad n e =
      let h = only_bad_from (lines_of text) 1 n e in
      record { before = h.0; line = h.1; others = h.2; parts = h.3; number = h.4; good = h.5; bad = h.6 }

pub ruleset step_lists = (list_is_read, only_list, bad_is_told, only_bad)
