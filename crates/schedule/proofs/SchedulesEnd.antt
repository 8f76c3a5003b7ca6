-- The steps of a schedule are those that its turns choose, and why it ends.
use Rattle.std.proofs.Common.{◌≡◌, ℕ, zero, suc, ◌+◌, ◌<◌, ◌≤◌, Bool, true, false, List, [], ◌∷◌, length, take, Option, Some, None, Result, Ok, Err, refl, sym, ap, ◌∙◌, subst, arith, inl, inr, ⊎_elim}
use Rattle.std.specs.Prelude.{slice_get, is_ok, ◌%◌}
use Rattle.std.specs.List.{Contains}
use Rattle.machine.specs.declared.step.Step.{Step}
use Rattle.machine.specs.declared.step.Step.TheVariants.{Crash}
use Rattle.machine.specs.declared.step.Seen.{Seen}
use Rattle.machine.specs.declared.refusal.Refusal.{Refusal}
use Rattle.machine.specs.State.{State}
use Rattle.machine.specs.Programs.{AreSiblings}
use Rattle.machine.specs.Steps.{step_of, run_of, end_after, End}
use Rattle.machine.proofs.ProgramsStay.{run_sibling}
use Rattle.schedule.specs.declared.plan.Plan.{Plan}
use Rattle.schedule.specs.Enabled.{choices_of, is_memory_step}
use Rattle.schedule.specs.Schedules.{Schedule, IsEnded, chosen, word_at, is_crash_turn, turn_step, step_and, turn_and, turns_from, schedule_of}
use Rattle.schedule.proofs.EnabledStepsAreThoseAccepted.{first_or_later, here, later, only}
use Rattle.schedule.proofs.LazyChoices.{are_enabled, no_memory_step}
use Rattle.schedule.proofs.OneTurn.{run_turns}

-- ---- at most so many turns

fewer_on : (s : State) (o : Option Step) (rest : State → Schedule) (left : ℕ) → ((u : State) → length (rest u).steps ≤ left)
    → length (turn_and s o rest).steps ≤ suc left
fewer_on s None rest left each = omega arith
fewer_on s (Some step) rest left each = by (step_of s step)
  where
    by : (r : Result (Seen × State) Refusal) → length (step_and s step r rest).steps ≤ suc left
    by (Ok done) = omega (arith, each done.1)
    by (Err refusal) = omega arith

pub fewer_turns : (plan : Plan) (number t left : ℕ) (s : State) → length (turns_from plan number t left s).steps ≤ left
fewer_turns plan number t zero s = omega arith
fewer_turns plan number t (suc left) s = fewer_on s (turn_step plan number t s) (turns_from plan number (t + 1) left) left (fewer_turns plan number (t + 1) left)

-- ---- what each turn chooses

-- step i of a schedule is the one of turn t + i, in the state that those before it leave
abbrev Chooses : Plan → ℕ → ℕ → State → Schedule → Type 0
Chooses plan number t s end = (i : ℕ) (step : Step) → slice_get end.steps i ≡ Some step → turn_step plan number (t + i) (run_of (take i end.steps) s).state ≡ Some step

chooses_on : (plan : Plan) (number t : ℕ) (s : State) (o : Option Step) (rest : State → Schedule) → turn_step plan number t s ≡ o
    → ((u : State) → Chooses plan number (t + 1) u (rest u)) → Chooses plan number t s (turn_and s o rest)
chooses_on plan number t s None rest is each i step there = absurd (cc)
chooses_on plan number t s (Some first) rest is each i step there = by (step_of s first) refl i there
  where
    by : (r : Result (Seen × State) Refusal) → step_of s first ≡ r → (i : ℕ) → slice_get (step_and s first r rest).steps i ≡ Some step
        → turn_step plan number (t + i) (run_of (take i (step_and s first r rest).steps) s).state ≡ Some step
    by (Err refusal) made i there = absurd (cc)
    by (Ok done) made zero there =
        let same : first ≡ step = cc in
        let now : t + 0 ≡ t = omega arith in
        ap (λ n. turn_step plan number n s) now ∙ is ∙ ap (λ (x : Step). Some x) same
    by (Ok done) made (suc i) there =
        let turn : t + suc i ≡ t + 1 + i = omega arith in
        let state : (run_of (first ∷ take i (rest done.1).steps) s).state ≡ (run_of (take i (rest done.1).steps) done.1).state =
        ap (λ (r : Result (Seen × State) Refusal). (end_after s r (run_of (take i (rest done.1).steps))).state) made in
        ap (λ n. turn_step plan number n (run_of (first ∷ take i (rest done.1).steps) s).state) turn
        ∙ ap (turn_step plan number (t + 1 + i)) state ∙ each done.1 i step there

turns_choose : (plan : Plan) (number t left : ℕ) (s : State) → Chooses plan number t s (turns_from plan number t left s)
turns_choose plan number t zero s = λ i step there. absurd (cc)
turns_choose plan number t (suc left) s =
    chooses_on plan number t s (turn_step plan number t s) (turns_from plan number (t + 1) left) refl (turns_choose plan number (t + 1) left)

-- ---- why it ends

-- what stands in a list
stands : (steps : List Step) (k : ℕ) (step : Step) → slice_get steps k ≡ Some step → Contains steps step
stands [] k step e = absurd (cc)
stands (x ∷ steps) zero step e =
    let same : x ≡ step = cc in
    subst (λ (y : Step). Contains (y ∷ steps) step) (sym same) (here step steps)
stands (x ∷ steps) (suc k) step e = later step x steps (stands steps k step e)

-- the step of a turn that does not crash is one of those from which it chooses
chosen_there : (plan : Plan) (number t : ℕ) (s : State) (step : Step) → is_crash_turn plan.crash_after t ≡ false → turn_step plan number t s ≡ Some step → Contains (choices_of plan.lazy s) step
chosen_there plan number t s step goes is =
    let steps : List Step = choices_of plan.lazy s in
    let word : ℕ = word_at plan number t in
    let e : chosen word steps ≡ Some step = rw goes at is in
    stands steps (word % length steps) step e

clash : {A : Type 0} (r : Result (Seen × State) Refusal) (refusal : Refusal) → is_ok r ≡ true → r ≡ Err refusal → A
clash (Ok done) refusal ok e = absurd (cc)
clash (Err other) refusal ok e = absurd (cc)

-- a step of a schedule that is refused is a crash
refused_crash : (plan : Plan) (number t : ℕ) (s : State) (step : Step) (refusal : Refusal) → turn_step plan number t s ≡ Some step → step_of s step ≡ Err refusal → step ≡ Crash
refused_crash plan number t s step refusal is refused = by (is_crash_turn plan.crash_after t) refl
  where
    by : (b : Bool) → is_crash_turn plan.crash_after t ≡ b → step ≡ Crash
    by true crashes = let e : Some Crash ≡ Some step = rw crashes at is in let same : Crash ≡ step = cc in sym same
    by false goes =
        clash (step_of s step) refusal ((only s step (are_enabled plan.lazy s step (chosen_there plan number t s step goes is))).0) refused

ended_on : (plan : Plan) (number t : ℕ) (s : State) (o : Option Step) (rest : State → Schedule) (left : ℕ) → turn_step plan number t s ≡ o
    → ((u : State) → length (rest u).steps < left → IsEnded plan number (t + 1 + length (rest u).steps) (rest u).state)
    → length (turn_and s o rest).steps < suc left → IsEnded plan number (t + length (turn_and s o rest).steps) (turn_and s o rest).state
ended_on plan number t s None rest left is each =
    let now : t + 0 ≡ t = omega arith in
    λ fewer. inl (ap (λ n. turn_step plan number n s) now ∙ is)
ended_on plan number t s (Some step) rest left is each = by (step_of s step) refl
  where
    by : (r : Result (Seen × State) Refusal) → step_of s step ≡ r → length (step_and s step r rest).steps < suc left
        → IsEnded plan number (t + length (step_and s step r rest).steps) (step_and s step r rest).state
    by (Err refusal) refused fewer =
        let now : t + 0 ≡ t = omega arith in
        let crash : step ≡ Crash = refused_crash plan number t s step refusal is refused in
        inr (ap (λ n. turn_step plan number n s) now ∙ is ∙ ap (λ (x : Step). Some x) crash, refusal, ap (step_of s) (sym crash) ∙ refused)
    by (Ok done) made fewer =
        let turn : t + suc (length (rest done.1).steps) ≡ t + 1 + length (rest done.1).steps = omega arith in
        subst (λ n. IsEnded plan number n (rest done.1).state) (sym turn) (each done.1 (omega (arith, fewer)))

ended_turns : (plan : Plan) (number t left : ℕ) (s : State) → length (turns_from plan number t left s).steps < left
    → IsEnded plan number (t + length (turns_from plan number t left s).steps) (turns_from plan number t left s).state
ended_turns plan number t zero s fewer = absurd (omega (arith, fewer))
ended_turns plan number t (suc left) s fewer =
    ended_on plan number t s (turn_step plan number t s) (turns_from plan number (t + 1) left) left refl (ended_turns plan number (t + 1) left) fewer

-- ---- no memory step, where it is lazy

lazy_turn : (plan : Plan) (number t : ℕ) (s : State) (step : Step) → plan.lazy ≡ true → turn_step plan number t s ≡ Some step → is_memory_step step ≡ false
lazy_turn plan number t s step lazy is = by (is_crash_turn plan.crash_after t) refl
  where
    by : (b : Bool) → is_crash_turn plan.crash_after t ≡ b → is_memory_step step ≡ false
    by true crashes = let e : Some Crash ≡ Some step = rw crashes at is in let same : Crash ≡ step = cc in ap is_memory_step (sym same)
    by false goes = no_memory_step s step (subst (λ b. Contains (choices_of b s) step) lazy (chosen_there plan number t s step goes is))

lazy_on : (s : State) (o : Option Step) (rest : State → Schedule) (step : Step) → (o ≡ Some step → is_memory_step step ≡ false)
    → ((u : State) → Contains (rest u).steps step → is_memory_step step ≡ false) → Contains (turn_and s o rest).steps step → is_memory_step step ≡ false
lazy_on s None rest step now each there = absurd (omega (arith, there.1))
lazy_on s (Some first) rest step now each there = by (step_of s first) there
  where
    by : (r : Result (Seen × State) Refusal) → Contains (step_and s first r rest).steps step → is_memory_step step ≡ false
    by (Err refusal) there = absurd (omega (arith, there.1))
    by (Ok done) there = ⊎_elim (λ (e : first ≡ step). now (ap (λ (x : Step). Some x) e)) (each done.1) (first_or_later step first (rest done.1).steps there)

lazy_turns : (plan : Plan) (number t left : ℕ) (s : State) (step : Step) → plan.lazy ≡ true → Contains (turns_from plan number t left s).steps step → is_memory_step step ≡ false
lazy_turns plan number t zero s step lazy there = absurd (omega (arith, there.1))
lazy_turns plan number t (suc left) s step lazy there =
    lazy_on s (turn_step plan number t s) (turns_from plan number (t + 1) left) step (lazy_turn plan number t s step lazy) (λ u. lazy_turns plan number (t + 1) left u step lazy) there

pub lazy_schedule : (plan : Plan) (number : ℕ) (s : State) (step : Step) → plan.lazy ≡ true → Contains (schedule_of plan number s).steps step → is_memory_step step ≡ false
lazy_schedule plan number s step lazy there = lazy_turns plan number 0 plan.length s step lazy there

module _ (plan : Plan) (number : ℕ) (s : State) where
  pub schedule_fewer : length (schedule_of plan number s).steps ≤ plan.length
  schedule_fewer = fewer_turns plan number 0 plan.length s

  pub schedule_chooses : (i : ℕ) (step : Step) → slice_get (schedule_of plan number s).steps i ≡ Some step
      → turn_step plan number i (run_of (take i (schedule_of plan number s).steps) s).state ≡ Some step
  schedule_chooses i step there =
      let now : 0 + i ≡ i = omega arith in
      subst (λ n. turn_step plan number n (run_of (take i (schedule_of plan number s).steps) s).state ≡ Some step) now (turns_choose plan number 0 plan.length s i step there)

  pub schedule_ended : length (schedule_of plan number s).steps < plan.length → IsEnded plan number (length (schedule_of plan number s).steps) (schedule_of plan number s).state
  schedule_ended fewer =
      let now : 0 + length (schedule_of plan number s).steps ≡ length (schedule_of plan number s).steps = omega arith in
      subst (λ n. IsEnded plan number n (schedule_of plan number s).state) now (ended_turns plan number 0 plan.length s fewer)

  pub schedule_runs : run_of (schedule_of plan number s).steps s ≡ record { accepted = length (schedule_of plan number s).steps; refusal = None; state = (schedule_of plan number s).state }
  schedule_runs = run_turns plan number 0 plan.length s

  pub schedule_sibling : AreSiblings (schedule_of plan number s).state s
  schedule_sibling = subst (λ (end : State). AreSiblings end s) (ap (λ (end : End). end.state) schedule_runs) (run_sibling (schedule_of plan number s).steps s)

pub siblings_after : (plan : Plan) (number : ℕ) (s end : State) → end ≡ (schedule_of plan number s).state → AreSiblings end s
siblings_after plan number s end is = subst (λ (t : State). AreSiblings t s) (sym is) (schedule_sibling plan number s)
