-- The first turns of a schedule are the schedule of a plan that is cut there.
use Rattle.std.proofs.Common.{◌≡◌, ℕ, zero, suc, ◌+◌, List, [], ◌∷◌, take, min, Option, Some, None, Result, Ok, Err, refl, sym, ap, ◌∙◌, arith}
use Rattle.machine.specs.declared.step.Step.{Step}
use Rattle.machine.specs.declared.step.Seen.{Seen}
use Rattle.machine.specs.declared.refusal.Refusal.{Refusal}
use Rattle.machine.specs.State.{State}
use Rattle.machine.specs.Steps.{step_of}
use Rattle.schedule.specs.declared.plan.Plan.{Plan}
use Rattle.schedule.specs.Schedules.{Schedule, cut_to, schedule_of, step_and, turn_and, turn_step, turns_from}

-- the rest of one schedule has the first steps of the rest of the other
turn_cut : (k : ℕ) (s : State) (o : Option Step) (few all : State → Schedule) → ((u : State) → (few u).steps ≡ take k (all u).steps)
    → (turn_and s o few).steps ≡ take (suc k) (turn_and s o all).steps
turn_cut k s None few all each = refl
turn_cut k s (Some step) few all each = by (step_of s step)
  where
    by : (r : Result (Seen × State) Refusal) → (step_and s step r few).steps ≡ take (suc k) (step_and s step r all).steps
    by (Ok done) = ap (λ (l : List Step). step ∷ l) (each done.1)
    by (Err refusal) = refl

module _ (plan : Plan) (number most : ℕ) where
  turns_cut : (t k left : ℕ) (s : State) → (turns_from (cut_to plan most) number t (min k left) s).steps ≡ take k (turns_from plan number t left s).steps
  turns_cut t zero left s = let none : min 0 left ≡ 0 = omega arith in ap (λ n. (turns_from (cut_to plan most) number t n s).steps) none
  turns_cut t (suc k) zero s = let none : min (suc k) 0 ≡ 0 = omega arith in ap (λ n. (turns_from (cut_to plan most) number t n s).steps) none
  turns_cut t (suc k) (suc left) s =
      let one : min (suc k) (suc left) ≡ suc (min k left) = omega arith in
      ap (λ n. (turns_from (cut_to plan most) number t n s).steps) one
      ∙ turn_cut k s (turn_step plan number t s) (turns_from (cut_to plan most) number (t + 1) (min k left)) (turns_from plan number (t + 1) left) (turns_cut (t + 1) k left)

pub first_turns : (plan : Plan) (number most : ℕ) (s : State) → (schedule_of (cut_to plan most) number s).steps ≡ take most (schedule_of plan number s).steps
first_turns plan number most s = turns_cut plan number most 0 most plan.length s
