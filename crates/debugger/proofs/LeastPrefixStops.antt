-- Where a run of steps halts, read from the halt.
use Rattle.std.proofs.Common.{◌≡◌, ℕ, zero, suc, ◌+◌, ◌<◌, ◌≤◌, inl, inr, List, [], ◌∷◌, length, take, Bool, true, false, get_or, refl, ap, sym, ◌∙◌, arith, subst, Option, Some, None}
use Rattle.std.specs.Prelude.{slice_get, unwrap_or, is_some}
use Rattle.std.specs.List.{find, range_with_len}
use Rattle.std.specs.Option.{option_map_or}
use Rattle.std.proofs.lemmas.Bool.{cases_Bool}
use Rattle.machine.specs.State.{State}
use Rattle.machine.specs.Steps.{End, step_of, run_of}
use Rattle.machine.specs.declared.step.Step.{Step}
use Rattle.machine.specs.declared.refusal.Refusal.{Refusal}
use Rattle.machine.proofs.RunIsAPrefix.{run_within, run_through, run_whole, run_stopped}
use Rattle.debugger.specs.Pasts.{AreAccepted}
use Rattle.debugger.specs.Sessions.{SessionValue}
use Rattle.debugger.specs.declared.halt.Halt.{Halt}
use Rattle.debugger.specs.declared.halt.Halt.TheVariants as halts
use Rattle.debugger.specs.Halts.{stop_at, state_at, stopping_prefix, stopped, unstopped, halt_of}
use Rattle.debugger.specs.Stopping.{IsStop, IsRefusal, IsEnd, IsHalt, IsOnlyHalt}
use Rattle.debugger.proofs.HistoriesLeadToStates.{front_accepted}
use Rattle.debugger.proofs.WhereRunsHalt.{tri, take_front, stops_there, refused_there, ends_there}

from_next : (p : ℕ → Bool) (a n : ℕ) → p a ≡ false → ((k : ℕ) → a + 1 ≤ k → k < n → p k ≡ false) → (k : ℕ) → a ≤ k → k < n → p k ≡ false
from_next p a n off rest k le lt =
    elim (tri a k) [
      | inl below ↦ rest k (omega (arith, below)) lt
      | inr other ↦ elim other [
        | inl same ↦ ap p (sym same) ∙ off
        | inr above ↦ absurd (omega (arith, above))
      ]
    ]

found_in_range : (p : ℕ → Bool) (a len n : ℕ) → find p (range_with_len a len) ≡ Some n → (a ≤ n) × (n < a + len) × (p n ≡ true) × ((k : ℕ) → a ≤ k → k < n → p k ≡ false)
found_in_range p a zero n e = absurd (cc)
found_in_range p a (suc len) n e =
    elim (cases_Bool (p a)) [
      | inl on ↦
          let is : ◌≡◌ {A = Option ℕ} (Some a) (Some n) = rw on at e in
          let same : a ≡ n = cc in
          (omega (arith, same), omega (arith, same), ap p (sym same) ∙ on, λ k le lt. absurd (omega (arith, same)))
      | inr off ↦
          let rest = found_in_range p (a + 1) len n (rw off at e) in
          (omega (arith, rest.0), omega (arith, rest.1), rest.2, from_next p a n off rest.3)
    ]

not_in_range : (p : ℕ → Bool) (a len : ℕ) → find p (range_with_len a len) ≡ None → (k : ℕ) → a ≤ k → k < a + len → p k ≡ false
not_in_range p a zero e k le lt = absurd (omega arith)
not_in_range p a (suc len) e k le lt =
    elim (cases_Bool (p a)) [
      | inl on ↦ let wrong : ◌≡◌ {A = Option ℕ} (Some a) None = rw on at e in absurd (cc)
      | inr off ↦ from_next p a (a + suc len) off (λ j l m. not_in_range p (a + 1) len (rw off at e) j l (omega (arith, m))) k le lt
    ]

some_of : (o : Option ℕ) → is_some o ≡ true → o ≡ Some (unwrap_or o 0)
some_of None e = absurd (cc)
some_of (Some x) e = refl

none_of : (o : Option ℕ) → is_some o ≡ false → o ≡ None
none_of None e = refl
none_of (Some x) e = absurd (cc)

get_there : {X : Type 0} (xs : List X) (i : ℕ) (x : X) → slice_get xs i ≡ Some x → (i < length xs) × (get_or xs i x ≡ x)
get_there [] i x e = absurd (cc)
get_there (y ∷ ys) zero x e = let same : y ≡ x = cc in (omega arith, same)
get_there (y ∷ ys) (suc i) x e = let rest = get_there ys i x e in (omega (arith, rest.0), rest.1)

front_of_run : (steps : List Step) (s : State) (n : ℕ) → n ≤ (run_of steps s).accepted → AreAccepted (take n steps) s
front_of_run steps s n le =
    subst (λ (xs : List Step). AreAccepted xs s) (take_front n (run_of steps s).accepted steps le)
    (front_accepted n (take (run_of steps s).accepted steps) s (ap (λ (x : End). x.refusal) (run_through steps s)))

never_stopped : (accepted id n : ℕ) (refusal : Option Refusal) → unstopped accepted refusal ≡ halts.Stop id n → ⊥
never_stopped accepted id n None e = cc
never_stopped accepted id n (Some refusal) e = cc

never_starved : (accepted n : ℕ) (refusal : Option Refusal) → unstopped accepted refusal ≡ halts.NoMemory n → ⊥
never_starved accepted n None e = cc
never_starved accepted n (Some refusal) e = cc

unstopped_refused : (accepted n : ℕ) (r : Refusal) (refusal : Option Refusal) → unstopped accepted refusal ≡ halts.Refused n r → (accepted ≡ n) × (refusal ≡ Some r)
unstopped_refused accepted n r None e = absurd (cc)
unstopped_refused accepted n r (Some refusal) e = (let same : accepted ≡ n = cc in same, let same : refusal ≡ r = cc in ap (λ (x : Refusal). Some x) same)

unstopped_ended : (accepted : ℕ) (refusal : Option Refusal) → unstopped accepted refusal ≡ halts.End → refusal ≡ None
unstopped_ended accepted None e = refl
unstopped_ended accepted (Some refusal) e = absurd (cc)

module _ (v : SessionValue) (steps : List Step) where
  abbrev last : End
  last = run_of steps v.past.state

  abbrev named_at : ℕ → Bool
  named_at n = is_some (stop_at v.stops (state_at v steps n))

  -- the halt, by the stopping prefix
  abbrev halt_by : Option ℕ → Halt
  halt_by o = option_map_or (stopped v steps) o (unstopped last.accepted last.refusal)

  quiet_all : stopping_prefix v steps ≡ None → (n : ℕ) → n ≤ last.accepted → (k : ℕ) → 0 < k → k ≤ n → stop_at v.stops (state_at v steps k) ≡ None
  quiet_all o n le k pos up = none_of (stop_at v.stops (state_at v steps k)) (not_in_range named_at 1 last.accepted o k (omega arith) (omega arith))

  stop_by : (id n : ℕ) (o : Option ℕ) → stopping_prefix v steps ≡ o → halt_by o ≡ halts.Stop id n → IsStop v steps id n
  stop_by id n None o e = absurd (never_stopped last.accepted id n last.refusal e)
  stop_by id n (Some m) o e =
      let same : m ≡ n = cc in
      let name : unwrap_or (stop_at v.stops (state_at v steps m)) 0 ≡ id = cc in
      let at = found_in_range named_at 1 last.accepted m o in
      let long : last.accepted ≤ length steps = run_within steps v.past.state in
      subst (λ k. IsStop v steps id k) same (record {
        some = omega (arith, at.0);
        within = omega (arith, at.1, long);
        accepted = front_of_run steps v.past.state m (omega (arith, at.1));
        holds = some_of (stop_at v.stops (state_at v steps m)) at.2 ∙ ap (λ (x : ℕ). Some x) name;
        least = λ k pos lt. none_of (stop_at v.stops (state_at v steps k)) (at.3 k (omega arith) lt);
      })

  pub stop_only : (id n : ℕ) → halt_of v steps ≡ halts.Stop id n → IsStop v steps id n
  stop_only id n e = stop_by id n (stopping_prefix v steps) refl e

  pub stop_always : (id n : ℕ) → IsStop v steps id n → halt_of v steps ≡ halts.Stop id n
  stop_always id n h = stops_there v steps n id h.some h.within h.accepted h.least h.holds

  refused_by : (n : ℕ) (r : Refusal) (o : Option ℕ) → stopping_prefix v steps ≡ o → halt_by o ≡ halts.Refused n r → IsRefusal v steps n r
  refused_by n r (Some m) o e = absurd (cc)
  refused_by n r None o e =
      let is = unstopped_refused last.accepted n r last.refusal e in
      let at = run_stopped steps v.past.state r is.1 in
      let there : (run_of (take last.accepted steps) v.past.state).state ≡ last.state = ap (λ (x : End). x.state) (run_through steps v.past.state) in
      subst (λ k. IsRefusal v steps k r) is.0 (record {
        step = at.0;
        next = at.1;
        accepted = front_of_run steps v.past.state last.accepted (omega arith);
        quiet = quiet_all o last.accepted (omega arith);
        refused = ap (λ (x : State). step_of x at.0) there ∙ at.2;
      })

  pub refused_only : (n : ℕ) (r : Refusal) → halt_of v steps ≡ halts.Refused n r → IsRefusal v steps n r
  refused_only n r e = refused_by n r (stopping_prefix v steps) refl e

  pub refused_always : (n : ℕ) (r : Refusal) → IsRefusal v steps n r → halt_of v steps ≡ halts.Refused n r
  refused_always n r h =
      let at = get_there steps n h.step h.next in
      refused_there v steps n h.step r at.0 h.accepted h.quiet (ap (λ (x : Step). step_of (state_at v steps n) x) at.1 ∙ h.refused)

  end_by : (o : Option ℕ) → stopping_prefix v steps ≡ o → halt_by o ≡ halts.End → IsEnd v steps
  end_by (Some m) o e = absurd (cc)
  end_by None o e =
      let all : AreAccepted steps v.past.state = unstopped_ended last.accepted last.refusal e in
      record { accepted = all; quiet = quiet_all o (length steps) (omega (arith, run_whole steps v.past.state all)) }

  pub end_only : halt_of v steps ≡ halts.End → IsEnd v steps
  end_only e = end_by (stopping_prefix v steps) refl e

  pub end_always : IsEnd v steps → halt_of v steps ≡ halts.End
  end_always h = ends_there v steps h.accepted h.quiet

  starved_by : (n : ℕ) (o : Option ℕ) → halt_by o ≡ halts.NoMemory n → ⊥
  starved_by n None e = never_starved last.accepted n last.refusal e
  starved_by n (Some m) e = cc

  is_halt : (h : Halt) → halt_of v steps ≡ h → IsHalt v steps h
  is_halt (halts.Stop id n) e = stop_only id n e
  is_halt (halts.Refused n r) e = refused_only n r e
  is_halt (halts.NoMemory n) e = starved_by n (stopping_prefix v steps) e
  is_halt halts.End e = end_only e

  pub halt_so : IsHalt v steps (halt_of v steps)
  halt_so = is_halt (halt_of v steps) refl

  pub halt_only : IsOnlyHalt v steps (halt_of v steps)
  halt_only (halts.Stop id n) is = stop_always id n is
  halt_only (halts.Refused n r) is = refused_always n r is
  halt_only (halts.NoMemory n) is = absurd is
  halt_only halts.End is = end_always is
