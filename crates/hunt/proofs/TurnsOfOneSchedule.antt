-- A schedule, one state after another, and the least turn after which a condition is broken.
use Rattle.std.proofs.Common.{◌≡◌, ℕ, zero, suc, ◌+◌, ◌<◌, ◌≤◌, false, Option, Some, None, Ok, List, [], ◌∷◌, ◌++◌, length, take, drop, sym, ap, ◌∙◌, arith}
use native.Mathlib.Decide.{ℕ_discrete}
use Rattle.std.specs.Prelude.{is_some, option_map, option_and_then}
use Rattle.machine.specs.declared.step.Step.{Step}
use Rattle.machine.specs.declared.step.Seen.{Seen}
use Rattle.machine.specs.State.{State}
use Rattle.machine.specs.Steps.{End, end_after, run_of, step_of}
use Rattle.machine.specs.StepRelations.{after_more}
use Rattle.machine.proofs.RunIsAPrefix.{run_parts}
use Rattle.machine.specs.Programs.{AreSiblings}
use Rattle.schedule.specs.declared.plan.Plan.{Plan}
use Rattle.schedule.specs.Schedules.{Schedule, after_step, schedule_of}
use Rattle.schedule.specs.Turns.{Turns, rest_of}
use Rattle.conditions.specs.Formulas.{Formula}
use Rattle.hunt.specs.declared.loss.Breach.{Breach}
use Rattle.hunt.specs.declared.loss.Loss.{Loss}
use Rattle.hunt.specs.Crashes.{broken_in, is_broken_at, least_turn, loss_at, loss_of, state_at, states_of}
use Rattle.hunt.proofs.LeastNumbersAreFirst.{least-none, least-some}

-- what stands at a place, and what stands before it and behind it
split_next : (xs : List Step) (t : ℕ) (x : Step) (ys : List Step) → drop t xs ≡ x ∷ ys → (take (suc t) xs ≡ take t xs ++ x ∷ []) × (drop (suc t) xs ≡ ys) × (t < length xs)
split_next [] zero x ys e = absurd cc
split_next [] (suc t) x ys e = absurd cc
split_next (a ∷ xs) zero x ys e =
    let first : a ≡ x = cc in let rest : xs ≡ ys = cc in (ap (λ (y : Step). y ∷ []) first, rest, omega arith)
split_next (a ∷ xs) (suc t) x ys e = let next = split_next xs t x ys e in (ap (λ (zs : List Step). a ∷ zs) next.0, next.1, omega (arith, next.2))

none_behind : (xs : List Step) (t : ℕ) → drop t xs ≡ [] → length xs ≤ t
none_behind [] t e = omega arith
none_behind (x ∷ xs) zero e = absurd cc
none_behind (x ∷ xs) (suc t) e = let next = none_behind xs t e in omega (arith, next)

-- After t turns of the schedule the state is s, and these turns are still to come.
pub record IsAt (plan : Plan) (number : ℕ) (start : State) (t : ℕ) (s : State) (turns : Turns) : Type 0 where
  pub within : t ≤ length (schedule_of plan number start).steps
  pub run : run_of (take t (schedule_of plan number start).steps) start ≡ record { accepted = t; refusal = None; state = s }
  pub rest : drop t (schedule_of plan number start).steps ≡ (rest_of turns s).steps

-- before the first turn, in a state that is the start
pub at_first : (plan : Plan) (number : ℕ) (start s : State) (turns : Turns) → s ≡ start → turns ≡ record { plan = plan; number = number; turn = 0; left = plan.length }
    → IsAt plan number start 0 s turns
at_first plan number start s turns same all = record {
  within = omega arith;
  run = ap (λ (u : State). record { accepted = 0; refusal = None; state = u }) (sym same);
  rest = λ i. (rest_of (sym all i) (sym same i)).steps;
}

one_run : (s u : State) (step : Step) (seen : Seen) → step_of s step ≡ Ok (seen, u) → run_of (step ∷ []) s ≡ record { accepted = 1; refusal = None; state = u }
one_run s u step seen made = ap (λ r. end_after s r (run_of [])) made ∙ ap (λ (n : ℕ). record { accepted = n; refusal = None; state = u }) (omega arith)

module _ (plan : Plan) (number : ℕ) (start : State) (t : ℕ) (s : State) (turns : Turns) (at : IsAt plan number start t s turns) where
  abbrev all : List Step
  all = (schedule_of plan number start).steps

  -- the state a turn later
  pub at_next : (u : State) (step : Step) (seen : Seen) (later : Turns) → rest_of turns s ≡ after_step step (rest_of later u) → step_of s step ≡ Ok (seen, u)
      → IsAt plan number start (t + 1) u later
  at_next u step seen later follows made =
      let split = split_next all t step (rest_of later u).steps (at.rest ∙ ap (λ (end : Schedule). end.steps) follows) in
      let one : t + 1 ≡ suc t = omega arith in
      let both : run_of (take t all ++ step ∷ []) start ≡ record { accepted = t + 1; refusal = None; state = u } =
      run_parts (take t all) (step ∷ []) start (ap (λ (end : End). end.refusal) at.run)
      ∙ ap (λ (end : End). after_more end.accepted (run_of (step ∷ []) end.state)) at.run
      ∙ ap (after_more t) (one_run s u step seen made) in
      record {
        within = omega (arith, split.2);
        run = ap (λ n. run_of (take n all) start) one ∙ ap (λ (steps : List Step). run_of steps start) split.0 ∙ both;
        rest = ap (λ n. drop n all) one ∙ split.1;
      }

  -- no turn follows
  pub at_last : (u : State) → rest_of turns s ≡ record { steps = []; state = u } → length (schedule_of plan number start).steps ≤ t
  at_last u none = none_behind all t (at.rest ∙ ap (λ (end : Schedule). end.steps) none)

  pub state_is : state_at plan start number t ≡ s
  state_is = ap (λ (end : End). end.state) at.run

-- no state below n breaks the condition
abbrev pub IsUnbroken : Plan → Formula → State → ℕ → ℕ → Type 0
IsUnbroken plan condition start number n = (k : ℕ) → k < n → is_broken_at plan condition start number k ≡ false

pub unbroken_first : (plan : Plan) (condition : Formula) (start : State) (number : ℕ) → IsUnbroken plan condition start number 0
unbroken_first plan condition start number k low = absurd (omega (arith, low))

pub unbroken_next : (plan : Plan) (condition : Formula) (start : State) (number t : ℕ) (s : State) (turns : Turns) → IsAt plan number start t s turns → broken_in condition s ≡ None
    → IsUnbroken plan condition start number t → IsUnbroken plan condition start number (t + 1)
unbroken_next plan condition start number t s turns at none before k low = elim (ℕ_discrete k t) [
  | yes same ↦
      ap (λ n. is_broken_at plan condition start number n) same
      ∙ ap (λ (u : State). is_some (broken_in condition u)) (state_is plan number start t s turns at)
      ∙ ap is_some none
  | no other ↦ before k (omega arith)
]

-- the schedule ends, and no state of it breaks the condition
pub no_loss : (plan : Plan) (condition : Formula) (start : State) (number t : ℕ) → length (schedule_of plan number start).steps ≤ t → IsUnbroken plan condition start number (t + 1)
    → None ≡ loss_of plan condition start number
no_loss plan condition start number t end before =
    sym (ap (option_and_then (loss_at plan condition start number))
    (least-none (is_broken_at plan condition start number) (states_of plan start number) (λ k low. before k (omega (arith, low, end)))))

-- a state breaks the condition, and none before it does
pub first_loss : (plan : Plan) (condition : Formula) (start : State) (number t : ℕ) (s : State) (breach : Breach) (turns : Turns) → IsAt plan number start t s turns → IsUnbroken plan condition start number t
    → broken_in condition s ≡ Some breach
    → ◌≡◌ {A = Option Loss} (Some (record { at = record { number = number; turn = t }; breach = breach })) (loss_of plan condition start number)
first_loss plan condition start number t s breach turns at before broken =
    let here : broken_in condition (state_at plan start number t) ≡ Some breach = ap (broken_in condition) (state_is plan number start t s turns at) ∙ broken in
    let turn : least_turn plan condition start number ≡ Some t =
    least-some (is_broken_at plan condition start number) (states_of plan start number) t (omega (arith, at.within)) (ap is_some here) before in
    sym (ap (option_and_then (loss_at plan condition start number)) turn
    ∙ ap (option_map (λ (found : Breach). record { at = record { number = number; turn = t }; breach = found })) here)

-- siblings of a sibling
pub siblings_on : (start s u : State) → AreSiblings s start → AreSiblings u s → AreSiblings u start
siblings_on start s u same next = record { shape = next.shape ∙ same.shape; programs = next.programs ∙ same.programs }
