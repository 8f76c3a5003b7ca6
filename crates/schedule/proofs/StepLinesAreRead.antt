-- A line says a step just where its tokens are of the step's form.
use Rattle.std.proofs.Common.{◌≡◌, ℕ, true, false, not, Option, Some, None, Result, Ok, Err, List, [], ◌∷◌, codes, bytes_eq, refl, ◌∙◌, ap, subst, inl, inr}
use Rattle.std.proofs.lemmas.Bool.{cases_Bool}
use Rattle.machine.specs.declared.step.Step.{Step}
use Rattle.machine.specs.declared.step.Step.TheVariants.{Exec, Drain, Persist, Settle, Crash}
use Rattle.text_tokens.specs.Numbers.{small_number_of}
use Rattle.text_tokens.specs.Text.{is_plain_line, tokens_of}
use Rattle.outcomes.specs.Outcomes.{◌>>=◌, refuse, required}
use Rattle.outcomes.proofs.PartsOfOutcomes.{bind_ok}
use Rattle.schedule.specs.declared.step_text.BadStep.{BadStep}
use Rattle.text_tokens.specs.Cursors.{Token, token_at, end_at}
use Rattle.schedule.specs.StepTexts.{IsForm, Says, bad_step, number_at, step_at, step_of, step_on}
use Rattle.text_tokens.proofs.TestsThatPassed.{required_ok, refuse_ok, not_false, same_ok, named, end_form}

-- what is of a form is read
pub form_is_read : (line : List ℕ) (step : Step) → is_plain_line line ≡ true → IsForm (tokens_of line) step → step_on line ≡ Ok (Some step)
unfolding step_on step_of step_at number_at token_at end_at
form_is_read line (Exec p) plain (number, tokens, value) = rw (plain, tokens, value) refl
form_is_read line (Drain p i) plain (number, place, tokens, value, index) = rw (plain, tokens, value, index) refl
form_is_read line (Persist g) plain (number, tokens, value) = rw (plain, tokens, value) refl
form_is_read line Settle plain tokens = rw (plain, tokens) refl
form_is_read line Crash plain tokens = rw (plain, tokens) refl

pub blank_line : (line : List ℕ) → is_plain_line line ≡ true → tokens_of line ≡ [] → step_on line ≡ Ok None
unfolding step_on step_of
blank_line line plain tokens = rw (plain, tokens) refl

pub other_line : (line : List ℕ) → is_plain_line line ≡ false → step_on line ≡ Err bad_step
unfolding step_on
other_line line other = rw other refl

same_pair : {A : Type 0} (a c : A) (b d : List Token) → ◌≡◌ {A = Result (A × List Token) BadStep} (Ok (a, b)) (Ok (c, d)) → (a ≡ c) × (b ≡ d)
same_pair {A} a c b d e =
    let pair = same_ok {E = BadStep} (a, b) (c, d) e in
    (ap (λ (q : A × List Token). q.0) pair, ap (λ (q : A × List Token). q.1) pair)

number_form : (tokens : List Token) (n : ℕ) (rest : List Token) → number_at tokens ≡ Ok (n, rest) → (number : Token) × (tokens ≡ number ∷ rest) × (small_number_of number ≡ Some n)
unfolding number_at token_at
number_form [] n rest e = absurd cc
number_form (token ∷ tokens) n rest e =
    let b = bind_ok (required bad_step (small_number_of token)) (λ m. Ok (m, tokens)) (n, rest) e in
    let p = same_pair b.0 n tokens rest b.2 in
    (token, ap (λ (ts : List Token). token ∷ ts) p.1, required_ok bad_step (small_number_of token) b.0 b.1 ∙ ap (λ (m : ℕ). Some m) p.0)

-- a step of a number that was read, and the tokens behind it
abbrev made_of : (ℕ → Step) → ℕ × List Token → Result (Step × List Token) BadStep
made_of f p = Ok (f p.0, p.1)

-- a number, and a step of it
one_number : (f : ℕ → Step) (tokens : List Token) (step : Step) → (number_at tokens >>= made_of f) ≡ Ok (step, [])
    → (number : Token) × (n : ℕ) × (tokens ≡ number ∷ []) × (small_number_of number ≡ Some n) × (f n ≡ step)
one_number f tokens step e =
    let b = bind_ok (number_at tokens) (made_of f) (step, []) e in
    let h = number_form tokens b.0.0 b.0.1 b.1 in
    let p = same_pair (f b.0.0) step b.0.1 [] b.2 in
    (h.0, b.0.0, h.1 ∙ ap (λ (ts : List Token). h.0 ∷ ts) p.1, h.2, p.0)

-- two numbers, and a step of them
two_numbers : (f : ℕ → ℕ → Step) (tokens : List Token) (step : Step) → (number_at tokens >>= λ p. number_at p.1 >>= made_of (f p.0)) ≡ Ok (step, [])
    → (number : Token) × (place : Token) × (n : ℕ) × (i : ℕ) × (tokens ≡ number ∷ place ∷ []) × (small_number_of number ≡ Some n) × (small_number_of place ≡ Some i) × (f n i ≡ step)
two_numbers f tokens step e =
    let b = bind_ok (number_at tokens) (λ p. number_at p.1 >>= made_of (f p.0)) (step, []) e in
    let h = number_form tokens b.0.0 b.0.1 b.1 in
    let m = one_number (f b.0.0) b.0.1 step b.2 in
    (h.0, m.0, b.0.0, m.1, h.1 ∙ ap (λ (ts : List Token). h.0 ∷ ts) m.2, h.2, m.3, m.4)

-- a step and its tokens, none of which is left, are of its form
pub step_form : (first : Token) (tokens : List Token) (step : Step) → step_at first tokens ≡ Ok (step, []) → IsForm (first ∷ tokens) step
unfolding step_at
step_form first tokens step e =
    elim (cases_Bool (bytes_eq first (codes "exec"))) [
      | inl exec ↦
          let is = named first (codes "exec") exec in
          let n = one_number (λ p. Exec p) tokens step (rw exec at e) in
          subst (IsForm (first ∷ tokens)) n.4 (n.0, cc, n.3)
      | inr exec ↦ elim (cases_Bool (bytes_eq first (codes "drain"))) [
        | inl drain ↦
            let is = named first (codes "drain") drain in
            let n = two_numbers (λ p i. Drain p i) tokens step (rw (exec, drain) at e) in
            subst (IsForm (first ∷ tokens)) n.7 (n.0, n.1, cc, n.5, n.6)
        | inr drain ↦ elim (cases_Bool (bytes_eq first (codes "persist"))) [
          | inl persist ↦
              let is = named first (codes "persist") persist in
              let n = one_number (λ g. Persist g) tokens step (rw (exec, drain, persist) at e) in
              subst (IsForm (first ∷ tokens)) n.4 (n.0, cc, n.3)
          | inr persist ↦ elim (cases_Bool (bytes_eq first (codes "settle"))) [
            | inl settle ↦
                let is = named first (codes "settle") settle in
                let n = same_pair Settle step tokens [] (rw (exec, drain, persist, settle) at e) in
                subst (IsForm (first ∷ tokens)) n.0 cc
            | inr settle ↦ elim (cases_Bool (bytes_eq first (codes "crash"))) [
              | inl crash ↦
                  let is = named first (codes "crash") crash in
                  let n = same_pair Crash step tokens [] (rw (exec, drain, persist, settle, crash) at e) in
                  subst (IsForm (first ∷ tokens)) n.0 cc
              | inr crash ↦ let none = rw (exec, drain, persist, settle, crash) at e in absurd cc
            ]
          ]
        ]
      ]
    ]

-- what all the tokens of a line say
abbrev SaysTokens : List Token → Option Step → Type 0
SaysTokens tokens None = tokens ≡ []
SaysTokens tokens (Some step) = IsForm tokens step

tokens_form : (tokens : List Token) (step : Option Step) → step_of tokens ≡ Ok step → SaysTokens tokens step
unfolding step_of
tokens_form [] step e = subst (SaysTokens []) (same_ok {E = BadStep} None step e) refl
tokens_form (first ∷ tokens) step e =
    let a = bind_ok (step_at first tokens) (λ s. end_at bad_step s.1 >>= λ end. Ok (Some s.0)) step e in
    let b = bind_ok (end_at bad_step a.0.1) (λ end. Ok (Some a.0.0)) step a.2 in
    let none = end_form bad_step a.0.1 b.0 b.1 in
    let all : step_at first tokens ≡ Ok (a.0.0, []) = a.1 ∙ ap (λ (ts : List Token). Ok (a.0.0, ts)) none in
    subst (SaysTokens (first ∷ tokens)) (same_ok {E = BadStep} (Some a.0.0) step b.2) (step_form first tokens a.0.0 all)

says : (line : List ℕ) (step : Option Step) → is_plain_line line ≡ true → SaysTokens (tokens_of line) step → Says line step
says line None plain h = (plain, h)
says line (Some step) plain h = (plain, h)

-- no other line is read
pub only_says : (line : List ℕ) (step : Option Step) → step_on line ≡ Ok step → Says line step
unfolding step_on
only_says line step e =
    let a = bind_ok (refuse bad_step (not (is_plain_line line))) (λ plain. step_of (tokens_of line)) step e in
    let plain = not_false (is_plain_line line) (refuse_ok bad_step (not (is_plain_line line)) a.0 a.1) in
    says line step plain (tokens_form (tokens_of line) step a.2)

pub says_is_read : (line : List ℕ) (step : Option Step) → Says line step → step_on line ≡ Ok step
says_is_read line None h = blank_line line h.0 h.1
says_is_read line (Some step) h = form_is_read line step h.0 h.1

pub only_forms : (line : List ℕ) (step : Step) → step_on line ≡ Ok (Some step) → (is_plain_line line ≡ true) × IsForm (tokens_of line) step
only_forms line step e = only_says line (Some step) e

pub ruleset step_forms = (form_is_read, only_forms, blank_line, other_line)
