-- Where a run of steps halts.
use Rattle.std.proofs.Common.{◌≡◌, ℕ, zero, suc, ◌+◌, ◌<◌, ◌≤◌, ◌⊎◌, inl, inr, List, [], ◌∷◌, length, map, take, drop, Bool, true, false, get_or, refl, ap, sym, ◌∙◌, arith, subst, Err, Option, Some, None}
use Rattle.std.specs.Prelude.{unwrap_or, is_some}
use Rattle.std.specs.List.{find, range_with_len}
use Rattle.std.specs.Option.{option_map_or}
use Rattle.std.proofs.lemmas.List.{take-append-drop, drop_more, length-take-le}
use Rattle.machine.specs.State.{State}
use Rattle.machine.specs.Steps.{End, step_of, run_of}
use Rattle.machine.specs.declared.step.Step.{Step}
use Rattle.machine.specs.declared.refusal.Refusal.{Refusal}
use Rattle.debugger.specs.Stops.{Armed}
use Rattle.images.specs.Truth.{holds_in}
use Rattle.debugger.specs.Pasts.{AreAccepted}
use Rattle.debugger.specs.Sessions.{SessionValue, after}
use Rattle.debugger.specs.declared.halt.Halt.TheVariants as halts
use Rattle.debugger.specs.Halts.{stop_at, state_at, stopping_prefix, stopped, unstopped, halt_of}
use Rattle.debugger.specs.Turns.{IsQuietUpTo}
use Rattle.debugger.proofs.GoingOneStepMore.{still_accepted, stop_here}
use Rattle.machine.specs.StepRelations.{after_more}
use Rattle.machine.proofs.RunIsAPrefix.{run_parts, run_whole}

pub tri : (a b : ℕ) → (a < b) ⊎ ((a ≡ b) ⊎ (b < a))
tri zero zero = inr (inl refl)
tri zero (suc b) = inl (omega arith)
tri (suc a) zero = inr (inr (omega arith))
tri (suc a) (suc b) = elim (tri a b) [ inl h ↦ inl (omega arith) | inr h ↦ elim h [ inl e ↦ inr (inl (ap suc e)) | inr l ↦ inr (inr (omega arith)) ] ]

pub find_in_range : (p : ℕ → Bool) (a len n : ℕ) → a ≤ n → n < a + len → ((k : ℕ) → a ≤ k → k < n → p k ≡ false) → p n ≡ true → find p (range_with_len a len) ≡ Some n
find_in_range p a zero n le lt quiet here = absurd (omega arith)
find_in_range p a (suc len) n le lt quiet here =
    elim (tri a n) [
      | inl below ↦ (let no : p a ≡ false = quiet a (omega arith) below in rw no (find_in_range p (a + 1) len n (omega arith) (omega arith) (λ k l m. quiet k (omega arith) m) here))
      | inr other ↦ elim other [
        | inl same ↦ (let yes : p a ≡ true = ap p same ∙ here in rw yes (ap Some same))
        | inr above ↦ absurd (omega arith)
      ]
    ]

pub none_in_range : (p : ℕ → Bool) (a len : ℕ) → ((k : ℕ) → a ≤ k → k < a + len → p k ≡ false) → find p (range_with_len a len) ≡ None
none_in_range p a zero quiet = refl
none_in_range p a (suc len) quiet =
    let no : p a ≡ false = quiet a (omega arith) (omega arith) in
    rw no (none_in_range p (a + 1) len (λ k l m. quiet k (omega arith) (omega arith)))

some_is : (o : Option ℕ) (x : ℕ) → o ≡ Some x → is_some o ≡ true
some_is o x e = rw e refl

none_is : (o : Option ℕ) → o ≡ None → is_some o ≡ false
none_is o e = rw e refl

pub take_front : {X : Type 0} (f l : ℕ) (xs : List X) → f ≤ l → take f (take l xs) ≡ take f xs
take_front zero l xs le = refl
take_front (suc f) zero xs le = absurd (omega arith)
take_front (suc f) (suc l) [] le = refl
take_front (suc f) (suc l) (x ∷ xs) le = ap (λ ys. x ∷ ys) (take_front f l xs (omega arith))

take_all : {X : Type 0} (i : ℕ) (xs : List X) → length xs ≤ i → take i xs ≡ xs
take_all zero [] le = refl
take_all zero (x ∷ xs) le = absurd (omega arith)
take_all (suc i) [] le = refl
take_all (suc i) (x ∷ xs) le = ap (λ ys. x ∷ ys) (take_all i xs (omega arith))

-- a run whose first n steps are accepted
module _ (steps : List Step) (s : State) (n : ℕ) (le : n ≤ length steps) (a : AreAccepted (take n steps) s) where
  front : run_of steps s ≡ after_more (run_of (take n steps) s).accepted (run_of (drop n steps) (run_of (take n steps) s).state)
  front = ap (λ (xs : List Step). run_of xs s) (sym (take-append-drop n steps)) ∙ run_parts (take n steps) (drop n steps) s a

  counted : (run_of (take n steps) s).accepted ≡ n
  counted = run_whole (take n steps) s a ∙ length-take-le n steps le

  pub within : n ≤ (run_of steps s).accepted
  within = let e : (run_of steps s).accepted ≡ (run_of (take n steps) s).accepted + (run_of (drop n steps) (run_of (take n steps) s).state).accepted = ap (λ (x : End). x.accepted) front in omega (arith, counted)

  refused_run : (d : Step) (r : Refusal) → n < length steps → step_of (run_of (take n steps) s).state (get_or steps n d) ≡ Err r → run_of (drop n steps) (run_of (take n steps) s).state ≡ record { accepted = 0; refusal = Some r; state = (run_of (take n steps) s).state }
  refused_run d r lt h = rw (drop_more steps n d lt, h) refl

  pub refused_at : (d : Step) (r : Refusal) → n < length steps → step_of (run_of (take n steps) s).state (get_or steps n d) ≡ Err r → ((run_of steps s).accepted ≡ n) × ((run_of steps s).refusal ≡ Some r)
  refused_at d r lt h =
      let e = front ∙ ap (λ (x : End). after_more (run_of (take n steps) s).accepted x) (refused_run d r lt h) in
      let c : (run_of steps s).accepted ≡ (run_of (take n steps) s).accepted + 0 = ap (λ (x : End). x.accepted) e in
      (omega (arith, counted), ap (λ (x : End). x.refusal) e)

module _ (v : SessionValue) (steps : List Step) where
  pub stops_there : (n id : ℕ) → 0 < n → n ≤ length steps → AreAccepted (take n steps) v.past.state → ((k : ℕ) → 0 < k → k < n → stop_at v.stops (state_at v steps k) ≡ None) → stop_at v.stops (state_at v steps n) ≡ Some id → halt_of v steps ≡ halts.Stop id n
  stops_there n id pos le a quiet here =
      let there : stopping_prefix v steps ≡ Some n =
      find_in_range (λ k. is_some (stop_at v.stops (state_at v steps k))) 1 (run_of steps v.past.state).accepted n (omega arith) (omega (arith, within steps v.past.state n le a))
      (λ k l m. none_is (stop_at v.stops (state_at v steps k)) (quiet k (omega arith) m)) (some_is (stop_at v.stops (state_at v steps n)) id here) in
      ap (λ (o : Option ℕ). option_map_or (stopped v steps) o (unstopped (run_of steps v.past.state).accepted (run_of steps v.past.state).refusal)) there
      ∙ ap (λ (o : Option ℕ). halts.Stop (unwrap_or o 0) n) here

  quiet_there : (n : ℕ) → (run_of steps v.past.state).accepted ≡ n → IsQuietUpTo v steps n → halt_of v steps ≡ unstopped (run_of steps v.past.state).accepted (run_of steps v.past.state).refusal
  quiet_there n e quiet =
      let nowhere : stopping_prefix v steps ≡ None =
      none_in_range (λ k. is_some (stop_at v.stops (state_at v steps k))) 1 (run_of steps v.past.state).accepted
      (λ k l m. none_is (stop_at v.stops (state_at v steps k)) (quiet k (omega arith) (omega (arith, e)))) in
      ap (λ (o : Option ℕ). option_map_or (stopped v steps) o (unstopped (run_of steps v.past.state).accepted (run_of steps v.past.state).refusal)) nowhere

  pub ends_there : AreAccepted steps v.past.state → IsQuietUpTo v steps (length steps) → halt_of v steps ≡ halts.End
  ends_there a quiet = quiet_there (length steps) (run_whole steps v.past.state a) quiet ∙ ap (λ (o : Option Refusal). unstopped (run_of steps v.past.state).accepted o) a

  pub refused_there : (n : ℕ) (d : Step) (r : Refusal) → n < length steps → AreAccepted (take n steps) v.past.state → IsQuietUpTo v steps n → step_of (state_at v steps n) (get_or steps n d) ≡ Err r → halt_of v steps ≡ halts.Refused n r
  refused_there n d r lt a quiet h =
      let e = refused_at steps v.past.state n (omega arith) a d r lt h in
      quiet_there n e.0 quiet ∙ ap (λ (o : Option Refusal). unstopped (run_of steps v.past.state).accepted o) e.1 ∙ ap (λ (k : ℕ). halts.Refused k r) e.0

pub open_up_to : (v : SessionValue) (steps : List Step) (n : ℕ) → n ≤ length steps → AreAccepted (take n steps) v.past.state → IsQuietUpTo v steps n → halt_of v (take n steps) ≡ halts.End
open_up_to v steps n le a quiet =
    ends_there v (take n steps) a (λ k pos l.
    (let up : k ≤ n = omega (arith, length-take-le n steps le) in
    ap (λ (xs : List Step). stop_at v.stops (run_of xs v.past.state).state) (take_front k n steps up) ∙ quiet k pos up))

-- the same, of a session that made the first i steps
module _ (W V : SessionValue) (es : List Step) (i : ℕ) (s : V ≡ after W (take i es)) (a : AreAccepted (take i es) W.past.state) (q : IsQuietUpTo W es i) where
  pub refused_from : (d : Step) (r : Refusal) → i < length es → step_of V.past.state (get_or es i d) ≡ Err r → halt_of W es ≡ halts.Refused i r
  refused_from d r lt h = refused_there W es i d r lt a q (ap (λ x. step_of x (get_or es i d)) (sym (ap (λ w. w.past.state) s)) ∙ h)

  pub stopped_from : (d : Step) (V' : SessionValue) (id : ℕ) → i < length es → V' ≡ after V (get_or es i d ∷ []) → AreAccepted (get_or es i d ∷ []) V.past.state → stop_at V.stops V'.past.state ≡ Some id → halt_of W es ≡ halts.Stop id (i + 1)
  stopped_from d V' id lt p b h =
      stops_there W es (i + 1) id (omega arith) (omega arith) (still_accepted W V es i d lt s a b) (λ k pos l. q k pos (omega arith)) (stop_here W V V' es i d lt s a p (Some id) h)

  pub starved_from : i < length es → (i < length es) × (halt_of W (take i es) ≡ halts.End)
  starved_from lt = (lt, open_up_to W es i (omega arith) a q)

  pub ended_from : length es ≤ i → halt_of W es ≡ halts.End
  ended_from le =
      let all : take i es ≡ es = take_all i es le in
      ends_there W es (subst (λ (xs : List Step). AreAccepted xs W.past.state) all a) (λ k pos l. q k pos (omega arith))

-- the first of the stops from place i on
module _ {X : Type 0} (m : X → Armed) (xs : List X) (i : ℕ) (x : X) (s : State) (lt : i < length xs) (is : x ≡ get_or xs i x) where
  pub found_here : holds_in s (m x).cond ≡ true → stop_at (map m (drop i xs)) s ≡ stop_at (map m xs) s → (n : ℕ) → n ≡ (m x).id → Some n ≡ stop_at (map m xs) s
  found_here h e n k =
      let h2 : holds_in s (m (get_or xs i x)).cond ≡ true = subst (λ (y : X). holds_in s (m y).cond ≡ true) is h in
      let here : stop_at (map m (drop i xs)) s ≡ Some (m (get_or xs i x)).id = rw (drop_more xs i x lt, h2) refl in
      ap Some (k ∙ ap (λ (y : X). (m y).id) is) ∙ sym here ∙ e

  pub passed_here : holds_in s (m x).cond ≡ false → stop_at (map m (drop i xs)) s ≡ stop_at (map m xs) s → stop_at (map m (drop (i + 1) xs)) s ≡ stop_at (map m xs) s
  passed_here h e =
      let h2 : holds_in s (m (get_or xs i x)).cond ≡ false = subst (λ (y : X). holds_in s (m y).cond ≡ false) is h in
      let on : stop_at (map m (drop i xs)) s ≡ stop_at (map m (drop (i + 1) xs)) s = rw (drop_more xs i x lt, h2) refl in
      sym on ∙ e
