-- One turn of a schedule.
use Rattle.std.proofs.Common.{◌≡◌, ℕ, zero, suc, ◌+◌, ◌-◌, ◌<◌, List, [], ◌∷◌, ◌++◌, length, Option, Some, None, Result, Ok, Err, refl, sym, ap, ◌∙◌, arith}
use Rattle.rand_pcg.specs.Lcg.{Lcg, next, next_state, state_after, advance}
use Rattle.rand_pcg.specs.Pcg.{multiplier_64, pcg32}
use Rattle.machine.specs.declared.step.Step.{Step}
use Rattle.machine.specs.declared.step.Step.TheVariants.{Crash}
use Rattle.machine.specs.declared.step.Seen.{Seen}
use Rattle.machine.specs.declared.refusal.Refusal.{Refusal}
use Rattle.machine.specs.State.{State}
use Rattle.machine.specs.Steps.{step_of, run_of, end_after, End}
use Rattle.schedule.specs.declared.plan.Plan.{Plan}
use Rattle.schedule.specs.Enabled.{choices_of}
use Rattle.schedule.specs.Schedules.{Schedule, generator_of, chosen, is_crash_turn, turn_step, after_step, step_and, turn_and, turns_from}
use Rattle.std.specs.Prelude.{true, false, is_some, IfNone, IfSome, if◌then◌else◌}
use Rattle.std.proofs.lemmas.List.{append-nil}

pub turns-none : (plan : Plan) (number t left : ℕ) (s : State) → 0 < left → turn_step plan number t s ≡ None → turns_from plan number t left s ≡ record { steps = []; state = s }
turns-none plan number t zero s some_left none = absurd (omega (arith, some_left))
turns-none plan number t (suc left) s some_left none = ap (λ o. turn_and s o (turns_from plan number (t + 1) left)) none

pub turns-refused : (plan : Plan) (number t left : ℕ) (s : State) (step : Step) (refusal : Refusal) → 0 < left → turn_step plan number t s ≡ Some step → step_of s step ≡ Err refusal
    → turns_from plan number t left s ≡ record { steps = []; state = s }
turns-refused plan number t zero s step refusal some_left chosen refused = absurd (omega (arith, some_left))
turns-refused plan number t (suc left) s step refusal some_left chosen refused =
    ap (λ o. turn_and s o (turns_from plan number (t + 1) left)) chosen ∙ ap (λ r. step_and s step r (turns_from plan number (t + 1) left)) refused

pub turns-made : (plan : Plan) (number t left : ℕ) (s u : State) (step : Step) (seen : Seen) → 0 < left → turn_step plan number t s ≡ Some step → step_of s step ≡ Ok (seen, u)
    → turns_from plan number t left s ≡ after_step step (turns_from plan number (t + 1) (left - 1) u)
turns-made plan number t zero s u step seen some_left chosen made = absurd (omega (arith, some_left))
turns-made plan number t (suc left) s u step seen some_left chosen made =
    ap (λ o. turn_and s o (turns_from plan number (t + 1) left)) chosen ∙ ap (λ r. step_and s step r (turns_from plan number (t + 1) left)) made
    ∙ ap (λ n. after_step step (turns_from plan number (t + 1) n u)) (omega arith)

-- one step of the generator after n steps
state_after-suc : (w m increment n state : ℕ) → state_after w m increment (suc n) state ≡ next_state w m increment (state_after w m increment n state)
unfolding state_after
state_after-suc w m increment zero state = refl
state_after-suc w m increment (suc n) state = state_after-suc w m increment n (next_state w m increment state)

pub advance-none : (w m : ℕ) (g : Lcg) → advance w m 0 g ≡ g
unfolding state_after
advance-none w m g = refl

pub advance-more : (w m n : ℕ) (g : Lcg) → advance w m (n + 1) g ≡ next w m (advance w m n g)
advance-more w m n g =
    let one : n + 1 ≡ suc n = omega arith in
    ap (λ k. advance w m k g) one ∙ ap (λ (k : ℕ). record g { state = k }) (state_after-suc w m g.increment n g.state)

-- nothing follows
abbrev pub ended : State → Schedule
ended s = record { steps = []; state = s }

-- A turn comes, the first of those up to `last`. The others are those from `next_first` up to `end`.
abbrev pub Comes : (first last turn next_first end : ℕ) → Type 0
Comes first last turn next_first end = (end ≡ last) × ((0 < last - first) × (turn ≡ first) × (next_first ≡ first + 1))

module _ (plan : Plan) (number first last turn next_first end : ℕ) where
  -- the step of a turn whose word the generator gave
  pub turn_chooses : (s : State) (random after : Lcg) (word : ℕ) (step : Option Step) → Comes first last turn next_first end → random ≡ advance 64 multiplier_64 first (generator_of plan number)
      → (word, after) ≡ pcg32 random → step ≡ (if is_crash_turn plan.crash_after turn then Some Crash else chosen word (choices_of plan.lazy s)) → turn_step plan number first s ≡ step
  turn_chooses s random after word step (same, (some_left, here, up)) is gave chose =
      sym (chose ∙ ap (λ t. if is_crash_turn plan.crash_after t then Some Crash else chosen word (choices_of plan.lazy s)) here
      ∙ ap (λ w. if is_crash_turn plan.crash_after first then Some Crash else chosen w (choices_of plan.lazy s)) (ap (λ (p : ℕ × Lcg). p.0) gave ∙ ap (λ (g : Lcg). (pcg32 g).0) is))

  -- the generator a turn later
  pub next_random : (random after : Lcg) (word : ℕ) → Comes first last turn next_first end → random ≡ advance 64 multiplier_64 first (generator_of plan number)
      → (word, after) ≡ pcg32 random → after ≡ advance 64 multiplier_64 next_first (generator_of plan number)
  next_random random after word (same, (some_left, here, up)) is gave =
      ap (λ (p : ℕ × Lcg). p.1) gave ∙ ap (next 64 multiplier_64) is ∙ sym (advance-more 64 multiplier_64 first (generator_of plan number))
      ∙ ap (λ n. advance 64 multiplier_64 n (generator_of plan number)) (sym up)

  -- no step is enabled, the step is refused, or it is made
  pub next_none : (s : State) → Comes first last turn next_first end → turn_step plan number first s ≡ None → turns_from plan number first (last - first) s ≡ ended s
  next_none s (same, (some_left, here, up)) none = turns-none plan number first (last - first) s some_left none

  pub next_refused : (s u : State) (step : Step) (refusal : Refusal) → Comes first last turn next_first end → turn_step plan number first s ≡ Some step
      → step_of s step ≡ Err refusal → u ≡ s → turns_from plan number first (last - first) s ≡ ended u
  next_refused s u step refusal (same, (some_left, here, up)) chosen why kept =
      turns-refused plan number first (last - first) s step refusal some_left chosen why ∙ ap ended (sym kept)

  pub next_made : (s u : State) (step : Step) (seen : Seen) → Comes first last turn next_first end → turn_step plan number first s ≡ Some step
      → step_of s step ≡ Ok (seen, u) → turns_from plan number first (last - first) s ≡ after_step step (turns_from plan number next_first (end - next_first) u)
  next_made s u step seen (same, (some_left, here, up)) chosen made =
      let fewer : (last - first) - 1 ≡ end - next_first = omega (arith, same, some_left, up) in
      turns-made plan number first (last - first) s u step seen some_left chosen made
      ∙ ap (λ n. after_step step (turns_from plan number (first + 1) n u)) fewer
      ∙ ap (λ n. after_step step (turns_from plan number n (end - next_first) u)) (sym up)

-- how many steps follow and the state behind them, where one was made, and where none was
pub one_made : (r : Option (Step × Seen)) (here rest : Schedule) → is_some r ≡ true → IfSome r (λ made. here ≡ after_step made.0 rest)
    → (length here.steps ≡ length rest.steps + 1) × (here.state ≡ rest.state)
one_made (Some made) here rest is follows = (ap (λ (x : Schedule). length x.steps) follows ∙ omega arith, ap (λ (x : Schedule). x.state) follows)
one_made None here rest is follows = absurd (cc is)

pub none_made : (r : Option (Step × Seen)) (here : Schedule) (s : State) → is_some r ≡ false → IfNone r (here ≡ ended s)
    → (length here.steps ≡ 0) × (here.state ≡ s)
none_made None here s is ends = (ap (λ (x : Schedule). length x.steps) ends, ap (λ (x : Schedule). x.state) ends)
none_made (Some made) here s is ends = absurd (cc is)

one_more : (steps rest : List Step) (step : Step) → (steps ++ step ∷ []) ++ rest ≡ steps ++ step ∷ rest
one_more [] rest step = refl
one_more (first ∷ steps) rest step = ap (λ l. first ∷ l) (one_more steps rest step)

-- the same for the steps that were made so far, with those that follow
pub one_listed : (steps more all : List Step) (step : Step) (here rest : Schedule) → steps ++ here.steps ≡ all → more ≡ steps ++ step ∷ [] → here ≡ after_step step rest
    → more ++ rest.steps ≡ all
one_listed steps more all step here rest are is follows =
    ap (λ l. l ++ rest.steps) is ∙ one_more steps rest.steps step ∙ ap (λ (x : Schedule). steps ++ x.steps) (sym follows) ∙ are

pub all_listed : (steps all : List Step) (here : Schedule) (s : State) → steps ++ here.steps ≡ all → here ≡ ended s → steps ≡ all
all_listed steps all here s are ends = sym (append-nil steps) ∙ ap (λ (x : Schedule). steps ++ x.steps) (sym ends) ∙ are

-- the steps of a schedule are a run that is accepted whole, to its state
abbrev pub Runs : State → Schedule → Type 0
Runs s end = run_of end.steps s ≡ record { accepted = length end.steps; refusal = None; state = end.state }

run_step : (s : State) (step : Step) (r : Result (Seen × State) Refusal) (rest : State → Schedule) → step_of s step ≡ r → ((u : State) → Runs u (rest u)) → Runs s (step_and s step r rest)
run_step s step (Err refusal) rest is each = refl
run_step s step (Ok done) rest is each =
    ap (λ x. end_after s x (run_of (rest done.1).steps)) is
    ∙ ap (λ (end : End). record { accepted = end.accepted + 1; refusal = end.refusal; state = end.state }) (each done.1)
    ∙ ap (λ n. record { accepted = n; refusal = None; state = (rest done.1).state }) (omega arith)

run_turn : (s : State) (o : Option Step) (rest : State → Schedule) → ((u : State) → Runs u (rest u)) → Runs s (turn_and s o rest)
run_turn s None rest each = refl
run_turn s (Some step) rest each = run_step s step (step_of s step) rest refl each

pub run_turns : (plan : Plan) (number t left : ℕ) (s : State) → Runs s (turns_from plan number t left s)
run_turns plan number t zero s = refl
run_turns plan number t (suc left) s = run_turn s (turn_step plan number t s) (turns_from plan number (t + 1) left) (λ u. run_turns plan number (t + 1) left u)
