-- The own steps that follow a state: each is accepted, they lead to a state that covers it, and there no step is an own one.
use Rattle.std.proofs.Common.{◌≡◌, ℕ, zero, suc, ◌+◌, ◌<◌, ◌≤◌, inl, inr, Bool, true, false, Option, Some, None, Result, Ok, Err, List, [], ◌∷◌, length, refl, sym, ap, subst, ◌∙◌, arith, true≢false}
use Rattle.std.proofs.lemmas.Bool.{cases_Bool}
use Rattle.std.specs.Prelude.{slice_get, if◌then◌else◌}
use Rattle.std.specs.List.{list_any}
use Rattle.std.specs.Option.{option_or}
use Rattle.store_buffer.specs.declared.entry.Entry.{Entry}
use Rattle.store_buffer.specs.Buffers.{is_held_by}
use Rattle.machine.specs.declared.refusal.Refusal.{Refusal}
use Rattle.machine.specs.declared.step.Seen.{Seen}
use Rattle.machine.specs.declared.step.Step.{Step}
use Rattle.machine.specs.declared.step.Step.TheVariants.{Exec, Drain, Persist, Settle, Crash}
use Rattle.machine.specs.State.{Processor, State}
use Rattle.machine.specs.Steps.{end_after, run_of, step_of}
use Rattle.machine.proofs.ProcessorSteps.{drain_only, exec_only}
use Rattle.explore.specs.Ahead.{CoversAhead, IsIdle}
use Rattle.explore.specs.Followed.{after, all_own, first_from, first_own, followed, makes_own, own_at, own_end, owns_of, then_followed, was_own}
use Rattle.explore.specs.Own.{is_private}
use Rattle.explore.specs.Questions.{is_move}
use Rattle.explore.specs.Reachable.{is_crash}
use Rattle.explore.proofs.AheadSteps.{ahead_then, covers_itself}
use Rattle.explore.proofs.AheadSteps as ahead
use Rattle.explore.proofs.SpeakingFor.{speaks_for_same}
use Rattle.explore.proofs.OwnSteps.{fence_is_oldest}
use Rattle.explore.proofs.OwnStepsEnd.{only_fence, own_step_leads}

-- ---- one own step

-- a step is accepted, and a processor's own
pub record IsOwn (locals : Bool) (s : State) (step : Step) : Type 0 where
  pub seen : Seen
  pub end : State
  pub move : is_move step ≡ true
  pub made : step_of s step ≡ Ok (seen, end)
  pub own : is_private locals end seen ≡ true

own_by : (locals : Bool) (s : State) (step : Step) (r : Result (Seen × State) Refusal) → step_of s step ≡ r → is_move step ≡ true → was_own locals r ≡ true → IsOwn locals s step
own_by locals s step (Ok done) made move own = record { seen = done.0; end = done.1; move = move; made = made; own = own }
own_by locals s step (Err refusal) made move own = absurd (true≢false (sym own))

made_own : (locals : Bool) (s : State) (step : Step) → is_move step ≡ true → makes_own locals s step ≡ true → IsOwn locals s step
made_own locals s step move own = own_by locals s step (step_of s step) refl move own

pub after_is : (s t : State) (step : Step) (seen : Seen) → step_of s step ≡ Ok (seen, t) → after s step ≡ t
after_is s t step seen made = ap (λ r. (end_after s r (run_of [])).state) made

same_some : (a b : Step) → ◌≡◌ {A = Option Step} (Some a) (Some b) → a ≡ b
same_some a b e = cc

-- of which processor p has one
at_own : (locals : Bool) (s : State) (p : ℕ) (step : Step) → own_at locals s p ≡ Some step → IsOwn locals s step
at_own locals s p step e = by (makes_own locals s (Exec p)) (makes_own locals s (Drain p 0)) refl refl e
  where
    by : (a b : Bool) → makes_own locals s (Exec p) ≡ a → makes_own locals s (Drain p 0) ≡ b → ◌≡◌ {A = Option Step} (if a then Some (Exec p) else if b then Some (Drain p 0) else None) (Some step) → IsOwn locals s step
    by true b runs other e = subst (IsOwn locals s) (same_some (Exec p) step e) (made_own locals s (Exec p) refl runs)
    by false true waits leaves e = subst (IsOwn locals s) (same_some (Drain p 0) step e) (made_own locals s (Drain p 0) refl leaves)
    by false false waits stays e = absurd (cc)

or_own : (locals : Bool) (s : State) (a b : Option Step) (step : Step) → (a ≡ Some step → IsOwn locals s step) → (b ≡ Some step → IsOwn locals s step) → option_or a b ≡ Some step → IsOwn locals s step
or_own locals s None b step first later e = later e
or_own locals s (Some other) b step first later e = first e

from_own : (locals : Bool) (s : State) (p : ℕ) (cpus : List Processor) (step : Step) → first_from locals s p cpus ≡ Some step → IsOwn locals s step
from_own locals s p [] step e = absurd (cc)
from_own locals s p (c ∷ cpus) step e = or_own locals s (own_at locals s p) (first_from locals s (p + 1) cpus) step (at_own locals s p step) (from_own locals s (p + 1) cpus step) e

pub first_is_own : (locals : Bool) (s : State) (step : Step) → first_own locals s ≡ Some step → IsOwn locals s step
first_is_own locals s step e = from_own locals s 0 s.processors step e

-- ---- none

-- no processor has one
none_at : (locals : Bool) (s : State) (p : ℕ) → own_at locals s p ≡ None → (makes_own locals s (Exec p) ≡ false) × (makes_own locals s (Drain p 0) ≡ false)
none_at locals s p e = by (makes_own locals s (Exec p)) (makes_own locals s (Drain p 0)) e
  where
    by : (a b : Bool) → ◌≡◌ {A = Option Step} (if a then Some (Exec p) else if b then Some (Drain p 0) else None) None → (a ≡ false) × (b ≡ false)
    by true b e = absurd (cc)
    by false true e = absurd (cc)
    by false false e = (refl, refl)

or_none : (a b : Option Step) → option_or a b ≡ None → (a ≡ None) × (b ≡ None)
or_none None b e = (refl, e)
or_none (Some step) b e = absurd (cc)

none_from : (locals : Bool) (s : State) (q : ℕ) (cpus : List Processor) (p : ℕ) (c : Processor) → first_from locals s q cpus ≡ None → slice_get cpus p ≡ Some c → own_at locals s (q + p) ≡ None
none_from locals s q [] p c none there = absurd (cc)
none_from locals s q (x ∷ cpus) zero c none there =
    let same : q ≡ q + zero = omega arith in
    subst (λ (n : ℕ). own_at locals s n ≡ None) same ((or_none (own_at locals s q) (first_from locals s (q + 1) cpus) none).0)
none_from locals s q (x ∷ cpus) (suc p) c none there =
    let same : (q + 1) + p ≡ q + suc p = omega arith in
    subst (λ (n : ℕ). own_at locals s n ≡ None) same (none_from locals s (q + 1) cpus p c ((or_none (own_at locals s q) (first_from locals s (q + 1) cpus) none).1) there)

was_made : (locals : Bool) (s t : State) (step : Step) (seen : Seen) → step_of s step ≡ Ok (seen, t) → makes_own locals s step ≡ is_private locals t seen
was_made locals s t step seen made = ap (was_own locals) made

-- an sfence that leaves is oldest
own_place : (locals : Bool) (s t : State) (p i : ℕ) (seen : Seen) → step_of s (Drain p i) ≡ Ok (seen, t) → is_private locals t seen ≡ true → i ≡ 0
own_place locals s t p i seen made own =
    let x = drain_only s t p i seen made in
    let fence = only_fence locals t p i x.entry (ap (is_private locals t) (sym x.shown) ∙ own) in
    let none : x.earlier ≡ [] = fence_is_oldest x.earlier (ap (λ (y : Entry). list_any (is_held_by y) x.earlier) (sym fence) ∙ x.split.free) in
    sym x.split.place ∙ ap (λ (b : List Entry). length b) none

module _ (locals : Bool) (s : State) (none : first_own locals s ≡ None) where
  none_of : (p : ℕ) (c : Processor) → slice_get s.processors p ≡ Some c → (makes_own locals s (Exec p) ≡ false) × (makes_own locals s (Drain p 0) ≡ false)
  none_of p c there =
      let same : 0 + p ≡ p = omega arith in
      none_at locals s p (subst (λ (n : ℕ). own_at locals s n ≡ None) same (none_from locals s 0 s.processors p c none there))

  -- then no step is an own one
  pub none_idle : IsIdle locals s
  none_idle (Exec p) seen t move made =
      let x = exec_only s t p seen made in
      sym (was_made locals s t (Exec p) seen made) ∙ (none_of p x.before x.there).0
  none_idle (Drain p i) seen t move made =
      elim (cases_Bool (is_private locals t seen)) [
        | inl own ↦
            let x = drain_only s t p i seen made in
            let first : makes_own locals s (Drain p i) ≡ false = ap (λ (k : ℕ). makes_own locals s (Drain p k)) (own_place locals s t p i seen made own) ∙ (none_of p x.before x.there).1 in
            sym (was_made locals s t (Drain p i) seen made) ∙ first
        | inr foreign ↦ foreign
      ]
  none_idle (Persist line) seen t move made = absurd (true≢false (sym move))
  none_idle Settle seen t move made = absurd (true≢false (sym move))
  none_idle Crash seen t move made = absurd (true≢false (sym move))

-- a state that has one is not idle
pub some_busy : (locals : Bool) (s : State) (step : Step) → first_own locals s ≡ Some step → IsIdle locals s → ⊥
some_busy locals s step first idle =
    let o = first_is_own locals s step first in
    true≢false (sym o.own ∙ idle step o.seen o.end o.move o.made)

-- an idle state has none
pub idle_none : (locals : Bool) (s : State) → IsIdle locals s → first_own locals s ≡ None
idle_none locals s idle = by (first_own locals s) refl
  where
    by : (first : Option Step) → first_own locals s ≡ first → first ≡ None
    by None is = refl
    by (Some step) is = absurd (some_busy locals s step is idle)

-- ---- one after another

-- own steps, each accepted after those before it
abbrev pub AreOwn : Bool → List Step → State → Type 0
AreOwn locals [] s = Unit {0}
AreOwn locals (step ∷ steps) s = IsOwn locals s step × AreOwn locals steps (after s step)

then_own : (locals : Bool) (s : State) (n : ℕ) (first : Option Step) → first_own locals s ≡ first → ((t : State) → AreOwn locals (followed locals n t) t) → AreOwn locals (then_followed first s (followed locals n)) s
then_own locals s n None is each = tt
then_own locals s n (Some step) is each = (first_is_own locals s step is, each (after s step))

pub followed_own : (locals : Bool) (n : ℕ) (s : State) → AreOwn locals (followed locals n s) s
followed_own locals zero s = tt
followed_own locals (suc n) s = then_own locals s n (first_own locals s) refl (followed_own locals n)

pub owns_own : (locals : Bool) (s : State) → AreOwn locals (owns_of locals s) s
owns_own locals s = followed_own locals (all_own s.processors) s

-- the rest of a run
pub run_after : (s : State) (step : Step) (steps : List Step) (seen : Seen) (t : State) → step_of s step ≡ Ok (seen, t)
    → ((run_of (step ∷ steps) s).refusal ≡ (run_of steps (after s step)).refusal) × ((run_of (step ∷ steps) s).state ≡ (run_of steps (after s step)).state)
run_after s step steps seen t made =
    let is = after_is s t step seen made in (
      ap (λ r. (end_after s r (run_of steps)).refusal) made ∙ ap (λ (x : State). (run_of steps x).refusal) (sym is),
      ap (λ r. (end_after s r (run_of steps)).state) made ∙ ap (λ (x : State). (run_of steps x).state) (sym is),
    )

pub own_accepted : (locals : Bool) (steps : List Step) (s : State) → AreOwn locals steps s → (run_of steps s).refusal ≡ None
own_accepted locals [] s own = refl
own_accepted locals (step ∷ steps) s (first, rest) = (run_after s step steps first.seen first.end first.made).0 ∙ own_accepted locals steps (after s step) rest

no_crash : (step : Step) → is_move step ≡ true → is_crash step ≡ false
no_crash (Exec p) move = refl
no_crash (Drain p i) move = refl
no_crash (Persist line) move = absurd (true≢false (sym move))
no_crash Settle move = absurd (true≢false (sym move))
no_crash Crash move = absurd (true≢false (sym move))

pub own_quiet : (locals : Bool) (steps : List Step) (s : State) → AreOwn locals steps s → list_any is_crash steps ≡ false
own_quiet locals [] s own = refl
own_quiet locals (step ∷ steps) s (first, rest) = rw (no_crash step first.move) (own_quiet locals steps (after s step) rest)

-- they lead to a state that covers the one that they follow
own_ahead : (sets locals : Bool) (s : State) (step : Step) → IsOwn locals s step → CoversAhead sets locals (after s step) s
own_ahead sets locals s step o = subst (λ (t : State). CoversAhead sets locals t s) (sym (after_is s o.end step o.seen o.made)) (own_step_leads sets locals s o.end step o.seen o.move o.made o.own).covers

pub own_covers : (sets locals : Bool) (steps : List Step) (s : State) → AreOwn locals steps s → CoversAhead sets locals (run_of steps s).state s
own_covers sets locals [] s own = record { shape = refl; processors = ahead.gone_none locals s.shape s.processors; memory = speaks_for_same sets s.memory s.memory refl }
own_covers sets locals (step ∷ steps) s (first, rest) =
    subst (λ (t : State). CoversAhead sets locals t s) (sym (run_after s step steps first.seen first.end first.made).1)
    (ahead_then sets locals (run_of steps (after s step)).state (after s step) s (own_covers sets locals steps (after s step) rest) (own_ahead sets locals s step first))

pub end_covers : (sets locals : Bool) (s : State) → CoversAhead sets locals (own_end locals s) s
end_covers sets locals s = own_covers sets locals (owns_of locals s) s (owns_own locals s)

-- fewer are left
pub own_fewer : (locals : Bool) (s : State) (step : Step) → IsOwn locals s step → all_own (after s step).processors < all_own s.processors
own_fewer locals s step o = subst (λ (t : State). all_own t.processors < all_own s.processors) (sym (after_is s o.end step o.seen o.made)) (own_step_leads false locals s o.end step o.seen o.move o.made o.own).fewer

pub first_fewer : (locals : Bool) (s : State) (step : Step) → first_own locals s ≡ Some step → all_own (after s step).processors < all_own s.processors
first_fewer locals s step first = own_fewer locals s step (first_is_own locals s step first)

no_more : (locals : Bool) (steps : List Step) (s : State) → AreOwn locals steps s → all_own (run_of steps s).state.processors ≤ all_own s.processors
no_more locals [] s own = omega arith
no_more locals (step ∷ steps) s (first, rest) =
    let less = own_fewer locals s step first in
    let more = no_more locals steps (after s step) rest in
    subst (λ (t : State). all_own t.processors ≤ all_own s.processors) (sym (run_after s step steps first.seen first.end first.made).1) (omega (arith, less, more))

-- ---- there are no more than so many

abbrev Same : Bool → ℕ → ℕ → State → Type 0
Same locals n m s = all_own s.processors ≤ n → all_own s.processors ≤ m → followed locals n s ≡ followed locals m s

none_left : (locals : Bool) (s : State) (n : ℕ) (first : Option Step) → first_own locals s ≡ first → all_own s.processors ≤ 0 → [] ≡ then_followed first s (followed locals n)
none_left locals s n None is few = refl
none_left locals s n (Some step) is few = let less = first_fewer locals s step is in absurd (omega (arith, less, few))

same_then : (locals : Bool) (s : State) (n m : ℕ) (first : Option Step) → first_own locals s ≡ first → all_own s.processors ≤ suc n → all_own s.processors ≤ suc m → ((t : State) → Same locals n m t)
    → then_followed first s (followed locals n) ≡ then_followed first s (followed locals m)
same_then locals s n m None is few also each = refl
same_then locals s n m (Some step) is few also each =
    let less = first_fewer locals s step is in
    ap (λ (steps : List Step). step ∷ steps) (each (after s step) (omega (arith, less, few)) (omega (arith, less, also)))

same_followed : (locals : Bool) (n m : ℕ) (s : State) → Same locals n m s
same_followed locals zero zero s few also = refl
same_followed locals zero (suc m) s few also = none_left locals s m (first_own locals s) refl few
same_followed locals (suc n) zero s few also = sym (none_left locals s n (first_own locals s) refl also)
same_followed locals (suc n) (suc m) s few also = same_then locals s n m (first_own locals s) refl few also (same_followed locals n m)

-- the first of them, and the rest
pub owns_none : (locals : Bool) (s : State) → first_own locals s ≡ None → owns_of locals s ≡ []
owns_none locals s none = by (all_own s.processors)
  where
    by : (n : ℕ) → followed locals n s ≡ []
    by zero = refl
    by (suc n) = ap (λ (first : Option Step). then_followed first s (followed locals n)) none

module _ (locals : Bool) (s : State) (step : Step) (first : first_own locals s ≡ Some step) where
  then_first : (n : ℕ) → all_own (after s step).processors < n → followed locals n s ≡ step ∷ owns_of locals (after s step)
  then_first zero less = absurd (omega (arith, less))
  then_first (suc n) less =
      let now : ℕ = all_own (after s step).processors in
      ap (λ (o : Option Step). then_followed o s (followed locals n)) first
      ∙ ap (λ (steps : List Step). step ∷ steps) (same_followed locals n now (after s step) (omega (arith, less)) (omega arith))

  pub owns_then : owns_of locals s ≡ step ∷ owns_of locals (after s step)
  owns_then = then_first (all_own s.processors) (first_fewer locals s step first)

  pub end_then : own_end locals s ≡ own_end locals (after s step)
  end_then =
      let o = first_is_own locals s step first in
      ap (λ (steps : List Step). (run_of steps s).state) owns_then ∙ (run_after s step (owns_of locals (after s step)) o.seen o.end o.made).1

  pub end_fewer : all_own (own_end locals s).processors < all_own s.processors
  end_fewer =
      let less = first_fewer locals s step first in
      let more = no_more locals (owns_of locals (after s step)) (after s step) (owns_own locals (after s step)) in
      subst (λ (t : State). all_own t.processors < all_own s.processors) (sym end_then) (omega (arith, less, more))

pub end_none : (locals : Bool) (s : State) → first_own locals s ≡ None → own_end locals s ≡ s
end_none locals s none = ap (λ (steps : List Step). (run_of steps s).state) (owns_none locals s none)

-- ---- the end

idle_by : (locals : Bool) (n : ℕ) (s : State) (first : Option Step) → first_own locals s ≡ first → all_own s.processors < suc n → ((t : State) → all_own t.processors < n → IsIdle locals (own_end locals t)) → IsIdle locals (own_end locals s)
idle_by locals n s None is few each = subst (IsIdle locals) (sym (end_none locals s is)) (none_idle locals s is)
idle_by locals n s (Some step) is few each =
    let less = first_fewer locals s step is in
    subst (IsIdle locals) (sym (end_then locals s step is)) (each (after s step) (omega (arith, less, few)))

idle_within : (locals : Bool) (n : ℕ) (s : State) → all_own s.processors < n → IsIdle locals (own_end locals s)
idle_within locals zero s few = absurd (omega (arith, few))
idle_within locals (suc n) s few = idle_by locals n s (first_own locals s) refl few (idle_within locals n)

-- in the state to which they lead no step is an own one
pub end_idle : (locals : Bool) (s : State) → IsIdle locals (own_end locals s)
end_idle locals s = idle_within locals (suc (all_own s.processors)) s (omega arith)
