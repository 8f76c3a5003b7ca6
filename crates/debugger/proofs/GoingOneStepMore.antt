-- One more step of a run of steps.
use Rattle.std.proofs.Common.{◌≡◌, ℕ, ◌+◌, ◌<◌, List, [], ◌∷◌, length, take, get_or, ap, sym, ◌∙◌, arith, subst, Err, None, Option, below_more}
use Rattle.std.proofs.lemmas.List.{take_more}
use Rattle.machine.specs.State.{State}
use Rattle.machine.specs.Steps.{step_of}
use Rattle.machine.specs.declared.step.Step.{Step}
use Rattle.machine.specs.declared.refusal.Refusal.{Refusal}
use Rattle.debugger.specs.Stops.{Armed}
use Rattle.debugger.specs.Pasts.{AreAccepted}
use Rattle.debugger.specs.Sessions.{SessionValue, after}
use Rattle.debugger.specs.Halts.{stop_at, state_at}
use Rattle.debugger.specs.Turns.{IsQuietUpTo}
use Rattle.debugger.proofs.HistoriesLeadToStates.{run_accepted}
use Rattle.debugger.proofs.PartsJoin.{after-append}

module _ (W V V' : SessionValue) (es : List Step) (i : ℕ) (d : Step) (lt : i < length es) (s : V ≡ after W (take i es)) (a : AreAccepted (take i es) W.past.state) where
  pub moved : V' ≡ after V (get_or es i d ∷ []) → V' ≡ after W (take (i + 1) es)
  moved p = p ∙ ap (λ w. after w (get_or es i d ∷ [])) s ∙ after-append W (take i es) (get_or es i d ∷ []) a ∙ ap (λ xs. after W xs) (sym (take_more es i d lt))

  state_is : V' ≡ after V (get_or es i d ∷ []) → V'.past.state ≡ state_at W es (i + 1)
  state_is p = ap (λ w. w.past.state) (moved p)

  pub stop_here : V' ≡ after V (get_or es i d ∷ []) → (o : Option ℕ) → stop_at V.stops V'.past.state ≡ o → stop_at W.stops (state_at W es (i + 1)) ≡ o
  stop_here p o h = ap (λ (x : State). stop_at W.stops x) (sym (state_is p)) ∙ ap (λ (x : List Armed). stop_at x V'.past.state) (sym (ap (λ w. w.stops) s)) ∙ h

  pub still_quiet : V' ≡ after V (get_or es i d ∷ []) → IsQuietUpTo W es i → stop_at V.stops V'.past.state ≡ None → IsQuietUpTo W es (i + 1)
  still_quiet p q h k pos le =
      below_more (λ n. 0 < n → stop_at W.stops (state_at W es n) ≡ None) (i + 1) (λ j l up. q j up (omega arith))
      (λ up. stop_here p None h) k (omega arith) pos

module _ (W V : SessionValue) (es : List Step) (i : ℕ) (d : Step) (lt : i < length es) (s : V ≡ after W (take i es)) where
  pub still_accepted : AreAccepted (take i es) W.past.state → AreAccepted (get_or es i d ∷ []) V.past.state → AreAccepted (take (i + 1) es) W.past.state
  still_accepted a b =
      subst (λ (xs : List Step). AreAccepted xs W.past.state) (sym (take_more es i d lt))
      (run_accepted (take i es) (get_or es i d ∷ []) W.past.state a (subst (λ (x : State). AreAccepted (get_or es i d ∷ []) x) (ap (λ w. w.past.state) s) b))

  pub barred_here : (r : Refusal) → step_of V.past.state (get_or es i d) ≡ Err r → step_of (state_at W es i) (get_or es i d) ≡ Err r
  barred_here r h = ap (λ x. step_of x (get_or es i d)) (sym (ap (λ w. w.past.state) s)) ∙ h
