-- The first enabled step, again and again.
use Rattle.std.proofs.Common.{◌≡◌, ℕ, zero, suc, ◌+◌, ◌<◌, List, [], ◌∷◌, ◌++◌, append_assoc, sym, ◌∙◌, ap, arith}
use Rattle.std.specs.Prelude.{Bool, true, false, if◌then◌else◌, slice_get}
use Rattle.std.proofs.lemmas.List.{append-nil}
use Rattle.machine.specs.State.{State}
use Rattle.machine.specs.declared.step.Step.{Step}
use Rattle.schedule.specs.Enabled.{enabled_of}
use Rattle.conversations.specs.Eager.{first_and, steps_to}

-- up to a state that passes a test
module _ (is_there : State → Bool) (steps whole : List Step) (s : State) where
  -- one step is made, and there may be more
  one_then : (n m : ℕ) (t : State) (step : Step) → n ≡ m + 1 → steps ++ steps_to is_there n s ≡ whole
      → ((others : State → List Step) → first_and others s (slice_get (enabled_of s) 0) ≡ step ∷ others t)
      → (steps ++ step ∷ []) ++ (if is_there t then [] else steps_to is_there m t) ≡ whole
  one_then zero m t step more so made = absurd (omega (arith, more))
  one_then (suc n) m t step more so made =
      let same : m ≡ n = omega (arith, more) in
      let later : State → List Step = λ (x : State). if is_there x then [] else steps_to is_there n x in
      rw same (append_assoc steps (step ∷ []) (later t) ∙ ap (λ (xs : List Step). steps ++ xs) (sym (made later)) ∙ so)

  -- it does not lead there
  pub one_on : (n m : ℕ) (t : State) (step : Step) → n ≡ m + 1 → is_there t ≡ false → steps ++ steps_to is_there n s ≡ whole
      → ((others : State → List Step) → first_and others s (slice_get (enabled_of s) 0) ≡ step ∷ others t) → (steps ++ step ∷ []) ++ steps_to is_there m t ≡ whole
  one_on n m t step more not so made = rw not at (one_then n m t step more so made)

  -- it leads there
  pub one_there : (n m : ℕ) (t : State) (step : Step) → n ≡ m + 1 → is_there t ≡ true → steps ++ steps_to is_there n s ≡ whole
      → ((others : State → List Step) → first_and others s (slice_get (enabled_of s) 0) ≡ step ∷ others t) → steps ++ step ∷ [] ≡ whole
  one_there n m t step more there so made =
      let none : (steps ++ step ∷ []) ++ [] ≡ whole = rw there at (one_then n m t step more so made) in
      sym (append-nil (steps ++ step ∷ [])) ∙ none

  -- or there is none more
  pub none_on : (n : ℕ) → 0 < n → steps ++ steps_to is_there n s ≡ whole
      → ((others : State → List Step) → first_and others s (slice_get (enabled_of s) 0) ≡ []) → steps ≡ whole
  none_on zero some so none = absurd (omega arith)
  none_on (suc n) some so none =
      sym (append-nil steps) ∙ ap (λ (xs : List Step). steps ++ xs) (sym (none (λ (x : State). if is_there x then [] else steps_to is_there n x))) ∙ so

  -- or there were so many
  pub all_on : (n : ℕ) → (0 < n → ⊥) → steps ++ steps_to is_there n s ≡ whole → steps ≡ whole
  all_on zero over so = sym (append-nil steps) ∙ so
  all_on (suc n) over so = absurd (over (omega arith))
