-- A run is the accepted part of its steps.
use Rattle.std.proofs.Common.{◌≡◌, ℕ, suc, ◌+◌, ◌≤◌, Some, None, Result, Ok, Err, List, [], ◌∷◌, ◌++◌, length, take, refl, sym, ◌∙◌, ap, arith, inl, inr, add-one}
use Rattle.std.specs.Prelude.{slice_get, nat_le}
use Rattle.std.proofs.lemmas.Bool.{cases_Bool}
use Rattle.machine.specs.declared.step.Step.{Step}
use Rattle.machine.specs.declared.step.Step.TheVariants.{Exec, Drain, Persist, Settle, Crash}
use Rattle.machine.specs.declared.step.Seen.{Seen}
use Rattle.machine.specs.declared.refusal.Refusal.{Refusal}
use Rattle.machine.specs.declared.refusal.Refusal.TheVariants.{Spent}
use Rattle.machine.specs.Limits.{max_turns}
use Rattle.machine.specs.State.{State}
use Rattle.persist_buffer.specs.Memories.{persist_of, settle_of}
use Rattle.outcomes.specs.Outcomes.{◌>>=◌, refused_as}
use Rattle.machine.specs.declared.step.Seen.TheVariants.{Persisted, Settled}
use Rattle.machine.specs.Refusals.{of_pending}
use Rattle.machine.specs.Steps.{End, exec_at, drain_at, crash_of, event_of, step_of, end_after, run_of}
use Rattle.outcomes.proofs.PartsOfOutcomes.{answer_of}
use Rattle.machine.specs.StepRelations.{after_more}

within_on : (s : State) (r : Result (Seen × State) Refusal) (rest : State → End) (n : ℕ) → ((t : State) → (rest t).accepted ≤ n) → (end_after s r rest).accepted ≤ suc n
within_on s (Ok done) rest n h = omega (arith, h done.1)
within_on s (Err refusal) rest n h = omega arith

pub run_within : (steps : List Step) (s : State) → (run_of steps s).accepted ≤ length steps
run_within [] s = omega arith
run_within (step ∷ steps) s = within_on s (step_of s step) (run_of steps) (length steps) (run_within steps)

-- the accepted steps are a run without refusal
abbrev RunsThrough : List Step → State → Type 0
RunsThrough steps s = run_of (take (run_of steps s).accepted steps) s ≡ record (run_of steps s) { refusal = None }

through_on : (step : Step) (steps : List Step) (s : State) (r : Result (Seen × State) Refusal) → step_of s step ≡ r → ((t : State) → RunsThrough steps t)
    → run_of (take (end_after s r (run_of steps)).accepted (step ∷ steps)) s ≡ record (end_after s r (run_of steps)) { refusal = None }
through_on step steps s (Ok done) e h = rw (add-one, e, h done.1, add-one) refl
through_on step steps s (Err refusal) e h = refl

pub run_through : (steps : List Step) (s : State) → RunsThrough steps s
run_through [] s = refl
run_through (step ∷ steps) s = through_on step steps s (step_of s step) refl (run_through steps)

whole_on : (s : State) (r : Result (Seen × State) Refusal) (rest : State → End) (n : ℕ) → ((t : State) → (rest t).refusal ≡ None → (rest t).accepted ≡ n)
    → (end_after s r rest).refusal ≡ None → (end_after s r rest).accepted ≡ suc n
whole_on s (Ok done) rest n h e = omega (arith, h done.1 e)
whole_on s (Err refusal) rest n h e = absurd (cc)

pub run_whole : (steps : List Step) (s : State) → (run_of steps s).refusal ≡ None → (run_of steps s).accepted ≡ length steps
run_whole [] s e = refl
run_whole (step ∷ steps) s e = whole_on s (step_of s step) (run_of steps) (length steps) (run_whole steps) e

unrefused_on : (s : State) (r : Result (Seen × State) Refusal) (rest : State → End) (n : ℕ) → ((t : State) → (rest t).accepted ≡ n → (rest t).refusal ≡ None)
    → (end_after s r rest).accepted ≡ suc n → (end_after s r rest).refusal ≡ None
unrefused_on s (Ok done) rest n h e = h done.1 (omega (arith, e))
unrefused_on s (Err refusal) rest n h e = absurd (omega (arith, e))

pub run_unrefused : (steps : List Step) (s : State) → (run_of steps s).accepted ≡ length steps → (run_of steps s).refusal ≡ None
run_unrefused [] s e = refl
run_unrefused (step ∷ steps) s e = unrefused_on s (step_of s step) (run_of steps) (length steps) (run_unrefused steps) e

-- the step at which a run ends is refused
abbrev StopsAt : List Step → End → Refusal → Type 0
StopsAt steps end refusal = (step : Step) × (slice_get steps end.accepted ≡ Some step) × (step_of end.state step ≡ Err refusal)

stopped_later : (step : Step) (steps : List Step) (end : End) (refusal : Refusal) → StopsAt steps end refusal → StopsAt (step ∷ steps) (record end { accepted = end.accepted + 1 }) refusal
stopped_later step steps end refusal h = (h.0, rw add-one h.1, h.2)

stopped_on : (step : Step) (steps : List Step) (s : State) (r : Result (Seen × State) Refusal) (refusal : Refusal) → step_of s step ≡ r
    → ((t : State) → (run_of steps t).refusal ≡ Some refusal → StopsAt steps (run_of steps t) refusal)
    → (end_after s r (run_of steps)).refusal ≡ Some refusal → StopsAt (step ∷ steps) (end_after s r (run_of steps)) refusal
stopped_on step steps s (Ok done) refusal is h e = stopped_later step steps (run_of steps done.1) refusal (h done.1 e)
stopped_on step steps s (Err other) refusal is h e =
    let same : other ≡ refusal = cc in
    (step, refl, is ∙ ap (λ (x : Refusal). Err x) same)

pub run_stopped : (steps : List Step) (s : State) (refusal : Refusal) → (run_of steps s).refusal ≡ Some refusal → StopsAt steps (run_of steps s) refusal
run_stopped [] s refusal e = absurd (cc)
run_stopped (step ∷ steps) s refusal e = stopped_on step steps s (step_of s step) refusal refl (λ t. run_stopped steps t refusal) e

parts_on : (s : State) (r : Result (Seen × State) Refusal) (first both : State → End) (second : List Step)
    → ((t : State) → (first t).refusal ≡ None → both t ≡ after_more (first t).accepted (run_of second (first t).state))
    → (end_after s r first).refusal ≡ None → end_after s r both ≡ after_more (end_after s r first).accepted (run_of second (end_after s r first).state)
parts_on s (Ok done) first both second h e =
    let rest = h done.1 e in
    let count : ((first done.1).accepted + (run_of second (first done.1).state).accepted) + 1 ≡ ((first done.1).accepted + 1) + (run_of second (first done.1).state).accepted = omega arith in
    ap (λ (x : End). record x { accepted = x.accepted + 1 }) rest ∙ ap (λ (n : ℕ). record (run_of second (first done.1).state) { accepted = n }) count
parts_on s (Err refusal) first both second h e = absurd (cc)

pub run_parts : (first second : List Step) (s : State) → (run_of first s).refusal ≡ None
    → run_of (first ++ second) s ≡ after_more (run_of first s).accepted (run_of second (run_of first s).state)
run_parts [] second s e =
    let count : (run_of second s).accepted ≡ 0 + (run_of second s).accepted = omega arith in
    ap (λ (n : ℕ). record (run_of second s) { accepted = n }) count
run_parts (step ∷ first) second s e = parts_on s (step_of s step) (run_of first) (run_of (first ++ second)) second (λ t. run_parts first second t) e

-- what an accepted event keeps
kept : {A : Type 0} (shape : List ℕ) (r : Result A Refusal) (f : A → Seen × State) (seen : Seen) (t : State) → ((a : A) → (f a).1.shape ≡ shape)
    → (r >>= λ a. Ok (f a)) ≡ Ok (seen, t) → t.shape ≡ shape
kept shape (Ok a) f seen t h e =
    let same : f a ≡ (seen, t) = cc in
    sym (ap (λ (p : Seen × State). p.1.shape) same) ∙ h a
kept shape (Err refusal) f seen t h e = absurd (cc)

event_keeps : (s t : State) (step : Step) (seen : Seen) → event_of s step ≡ Ok (seen, t) → t.shape ≡ s.shape
event_keeps s t (Exec p) seen e = kept s.shape (exec_at s.shape s.processors s.memory p) (λ done. (done.0, record s { processors = done.1.0; memory = done.1.1 })) seen t (λ a. refl) e
event_keeps s t (Drain p i) seen e = kept s.shape (drain_at s.processors s.memory p i) (λ done. (done.0, record s { processors = done.1.0; memory = done.1.1 })) seen t (λ a. refl) e
event_keeps s t (Persist line) seen e = kept s.shape (refused_as of_pending (persist_of s.shape s.memory line)) (λ done. (Persisted done.0.0 done.0.1, record s { memory = done.1 })) seen t (λ a. refl) e
event_keeps s t Settle seen e = kept s.shape (refused_as of_pending (settle_of s.memory)) (λ done. (Settled done.0, record s { memory = done.1 })) seen t (λ a. refl) e
event_keeps s t Crash seen e =
    let same : t ≡ crash_of s = (answer_of _ _ _ _ e).1 in
    ap (λ (x : State). x.shape) same

-- An accepted step is one turn more, and the lines stay.
pub record IsTurn (s t : State) : Type 0 where
  pub turns : t.turns ≡ s.turns + 1
  pub shape : t.shape ≡ s.shape

-- one turn more
abbrev turned : ℕ → Seen × State → Result (Seen × State) Refusal
turned turns done = Ok (done.0, record done.1 { turns = turns + 1 })

event_turns : (s t : State) (step : Step) (seen : Seen) (r : Result (Seen × State) Refusal) → event_of s step ≡ r
    → (r >>= turned s.turns) ≡ Ok (seen, t) → IsTurn s t
event_turns s t step seen (Ok done) is e =
    let same : t ≡ record done.1 { turns = s.turns + 1 } = (answer_of _ _ _ _ e).1 in
    record { turns = ap (λ (x : State). x.turns) same; shape = ap (λ (x : State). x.shape) same ∙ event_keeps s done.1 step done.0 is }
event_turns s t step seen (Err refusal) is e = absurd (cc)

pub step_turns : (s t : State) (step : Step) (seen : Seen) → step_of s step ≡ Ok (seen, t) → IsTurn s t
step_turns s t step seen e =
    elim (cases_Bool (nat_le max_turns s.turns)) [
      | inl spent ↦ let refused : ◌≡◌ {A = Result (Seen × State) Refusal} (Err Spent) (Ok (seen, t)) = rw spent at e in absurd (cc)
      | inr goes ↦ event_turns s t step seen (event_of s step) refl (rw goes at e)
    ]

pub step_counts : (s t : State) (step : Step) (seen : Seen) → step_of s step ≡ Ok (seen, t) → t.turns ≡ s.turns + 1
step_counts s t step seen e = (step_turns s t step seen e).turns

pub step_shape : (s t : State) (step : Step) (seen : Seen) → step_of s step ≡ Ok (seen, t) → t.shape ≡ s.shape
step_shape s t step seen e = (step_turns s t step seen e).shape

-- a run counts its accepted steps, and the lines stay
pub record IsCounted (s : State) (end : End) : Type 0 where
  pub turns : end.state.turns ≡ s.turns + end.accepted
  pub shape : end.state.shape ≡ s.shape

counted_on : (step : Step) (s : State) (r : Result (Seen × State) Refusal) (rest : State → End) → step_of s step ≡ r → ((t : State) → IsCounted t (rest t)) → IsCounted s (end_after s r rest)
counted_on step s (Ok done) rest is h =
    let turn = step_turns s done.1 step done.0 is in
    let more = h done.1 in
    record { turns = omega (arith, turn.turns, more.turns); shape = more.shape ∙ turn.shape }
counted_on step s (Err refusal) rest is h = record { turns = omega arith; shape = refl }

pub run_counted : (steps : List Step) (s : State) → IsCounted s (run_of steps s)
run_counted [] s = record { turns = omega arith; shape = refl }
run_counted (step ∷ steps) s = counted_on step s (step_of s step) (run_of steps) refl (run_counted steps)

pub run_turns : (steps : List Step) (s : State) → (run_of steps s).state.turns ≡ s.turns + (run_of steps s).accepted
run_turns steps s = (run_counted steps s).turns

pub run_shape : (steps : List Step) (s : State) → (run_of steps s).state.shape ≡ s.shape
run_shape steps s = (run_counted steps s).shape
