-- A step is enabled just where the state accepts it and it is no crash.
use Rattle.std.proofs.Common.{◌≡◌, ◌≢◌, ℕ, zero, suc, ◌+◌, ◌<◌, ◌≤◌, ◌⊎◌, Bool, true, false, List, [], ◌∷◌, ◌++◌, length, Option, Some, None, refl, sym, ap, ◌∙◌, subst, inl, inr, ⊎_elim, arith}
use Rattle.std.specs.Prelude.{map, slice_get, if◌then◌else◌, nat_le}
use Rattle.std.specs.List.{Contains, filter, range_with_len}
use Rattle.std.proofs.lemmas.List.Elements.{Contains-append_left, Contains-append_right, Contains-append_cases}
use Rattle.std.proofs.lemmas.Bool.Decides.{nat_tests}
use Rattle.machine.specs.declared.step.Step.{Step}
use Rattle.machine.specs.declared.step.Step.TheVariants.{Exec, Drain, Persist, Settle, Crash}
use Rattle.machine.specs.State.{Processor, State}
use Rattle.machine.specs.Limits.{max_turns}
use Rattle.machine.specs.Accepted.{accepts}
use Rattle.schedule.specs.Enabled.{execs, drains_of, drains_from, persists, possible_steps, enabled_of}

pub here : {X : Type 0} → (x : X) (xs : List X) → Contains (x ∷ xs) x
here x xs = (0, omega arith, refl)

pub later : {X : Type 0} → (x y : X) (xs : List X) → Contains xs x → Contains (y ∷ xs) x
later x y xs h = (suc h.0, omega (arith, h.1), h.2)

pub first_or_later : {X : Type 0} → (x y : X) (xs : List X) → Contains (y ∷ xs) x → (y ≡ x) ⊎ Contains xs x
first_or_later x y xs (zero, lt, is) = inl is
first_or_later x y xs (suc k, lt, is) = inr (k, omega (arith, lt), is)

-- what a filter keeps
pub kept : {X : Type 0} → (p : X → Bool) (xs : List X) (x : X) → p x ≡ true → Contains xs x → Contains (filter p xs) x
kept p [] x passed h = absurd (omega (arith, h.1))
kept p (y ∷ ys) x passed h = ⊎_elim
    (λ (e : y ≡ x). subst (λ b. Contains (if b then y ∷ filter p ys else filter p ys) x) (sym (ap p e ∙ passed)) (subst (λ z. Contains (z ∷ filter p ys) x) (sym e) (here x (filter p ys))))
    (λ h'. more (p y) (kept p ys x passed h')) (first_or_later x y ys h)
  where
    more : (b : Bool) → Contains (filter p ys) x → Contains (if b then y ∷ filter p ys else filter p ys) x
    more true k = later x y (filter p ys) k
    more false k = k

pub passes : {X : Type 0} → (p : X → Bool) (xs : List X) (x : X) → Contains (filter p xs) x → (p x ≡ true) × Contains xs x
passes p [] x h = absurd (omega (arith, h.1))
passes p (y ∷ ys) x h = by (p y) refl (passes p ys x) h
  where
    by : (b : Bool) → p y ≡ b → (Contains (filter p ys) x → (p x ≡ true) × Contains ys x) → Contains (if b then y ∷ filter p ys else filter p ys) x → (p x ≡ true) × Contains (y ∷ ys) x
    by true is rest k = ⊎_elim (λ (e : y ≡ x). (sym (ap p e) ∙ is, subst (λ z. Contains (z ∷ ys) x) (sym e) (here x ys))) (λ k'. let r = rest k' in (r.0, later x y ys r.1)) (first_or_later x y (filter p ys) k)
    by false is rest k = let r = rest k in (r.0, later x y ys r.1)

numbered : {X : Type 0} → (f : ℕ → X) (a n k : ℕ) → a ≤ k → k < a + n → Contains (map f (range_with_len a n)) (f k)
numbered f a zero k low high = absurd (omega (arith, low, high))
numbered f a (suc n) k low high = elim (native.Mathlib.Decide.ℕ_discrete a k) [
  | yes e ↦ subst (λ m. Contains (f m ∷ map f (range_with_len (a + 1) n)) (f k)) (sym e) (here (f k) (map f (range_with_len (a + 1) n)))
  | no ne ↦ later (f k) (f a) (map f (range_with_len (a + 1) n)) (numbered f (a + 1) n k (omega (arith, low, ne)) (omega (arith, high)))
]

-- a step that names nothing that is there is not accepted
no_cpu : (s : State) (p : ℕ) → slice_get s.processors p ≡ None → (b : Bool) → nat_le max_turns s.turns ≡ b → accepts s (Exec p) ≡ false
no_cpu s p none true spent = rw spent refl
no_cpu s p none false spent = rw (spent, none) refl

no_drain_cpu : (s : State) (p i : ℕ) → slice_get s.processors p ≡ None → (b : Bool) → nat_le max_turns s.turns ≡ b → accepts s (Drain p i) ≡ false
no_drain_cpu s p i none true spent = rw spent refl
no_drain_cpu s p i none false spent = rw (spent, none) refl

no_entry : (s : State) (p i : ℕ) (c : Processor) → slice_get s.processors p ≡ Some c → slice_get c.buffer i ≡ None → (b : Bool) → nat_le max_turns s.turns ≡ b → accepts s (Drain p i) ≡ false
no_entry s p i c at none true spent = rw spent refl
no_entry s p i c at none false spent = rw (spent, at, none) refl

no_line : (s : State) (line : ℕ) → nat_le (length s.shape) line ≡ true → (b : Bool) → nat_le max_turns s.turns ≡ b → accepts s (Persist line) ≡ false
no_line s line none true spent = rw spent refl
no_line s line none false spent = rw (spent, none) refl

within : {X : Type 0} → (xs : List X) (k : ℕ) (x : X) → slice_get xs k ≡ Some x → k < length xs
within [] k x e = absurd (cc e)
within (y ∷ ys) zero x e = omega arith
within (y ∷ ys) (suc k) x e = omega (arith, within ys k x e)

drain_there : (k p i : ℕ) (cs : List Processor) (c : Processor) → slice_get cs p ≡ Some c → i < length c.buffer → Contains (drains_from k cs) (Drain (k + p) i)
drain_there k p i [] c at low = absurd (cc at)
drain_there k zero i (x ∷ cs) c at low =
    let same : x ≡ c = cc at in
    Contains-append_left (drains_of k x) (drains_from (k + 1) cs) (Drain (k + 0) i)
    (subst (λ n. Contains (drains_of k x) (Drain n i)) (omega arith) (numbered (Drain k) 0 (length x.buffer) i (omega arith) (omega (arith, low, ap (λ (z : Processor). length z.buffer) same))))
drain_there k (suc p) i (x ∷ cs) c at low =
    Contains-append_right (drains_of k x) (drains_from (k + 1) cs) (Drain (k + suc p) i)
    (subst (λ n. Contains (drains_from (k + 1) cs) (Drain n i)) (omega arith) (drain_there (k + 1) p i cs c at low))

contradiction : {A : Type 0} (b : Bool) → b ≡ true → b ≡ false → A
contradiction b is isnt = absurd (cc (is, isnt))

-- where a possible of each kind stands
in_execs : (s : State) (x : Step) → Contains (execs s) x → Contains (possible_steps s) x
in_execs s x c = Contains-append_left ((execs s ++ drains_from 0 s.processors) ++ persists s) (Settle ∷ []) x (Contains-append_left (execs s ++ drains_from 0 s.processors) (persists s) x
    (Contains-append_left (execs s) (drains_from 0 s.processors) x c))

in_drains : (s : State) (x : Step) → Contains (drains_from 0 s.processors) x → Contains (possible_steps s) x
in_drains s x c = Contains-append_left ((execs s ++ drains_from 0 s.processors) ++ persists s) (Settle ∷ []) x (Contains-append_left (execs s ++ drains_from 0 s.processors) (persists s) x
    (Contains-append_right (execs s) (drains_from 0 s.processors) x c))

in_persists : (s : State) (x : Step) → Contains (persists s) x → Contains (possible_steps s) x
in_persists s x c = Contains-append_left ((execs s ++ drains_from 0 s.processors) ++ persists s) (Settle ∷ []) x (Contains-append_right (execs s ++ drains_from 0 s.processors) (persists s) x c)

possible : (s : State) (step : Step) → accepts s step ≡ true → step ≢ Crash → Contains (possible_steps s) step
possible s (Exec p) is calm_step = by (slice_get s.processors p) refl
  where
    by : (o : Option Processor) → slice_get s.processors p ≡ o → Contains (possible_steps s) (Exec p)
    by None at = contradiction _ is (no_cpu s p at (nat_le max_turns s.turns) refl)
    by (Some c) at = in_execs s (Exec p) (numbered Exec 0 (length s.processors) p (omega arith) (omega (arith, within s.processors p c at)))
possible s (Drain p i) is calm_step = by (slice_get s.processors p) refl
  where
    entry : (c : Processor) → slice_get s.processors p ≡ Some c → (o : Option _) → slice_get c.buffer i ≡ o → Contains (possible_steps s) (Drain p i)
    entry c at None none = contradiction _ is (no_entry s p i c at none (nat_le max_turns s.turns) refl)
    entry c at (Some e) there = in_drains s (Drain p i) (subst (λ n. Contains (drains_from 0 s.processors) (Drain n i)) (omega arith) (drain_there 0 p i s.processors c at (within c.buffer i e there)))

    by : (o : Option Processor) → slice_get s.processors p ≡ o → Contains (possible_steps s) (Drain p i)
    by None at = contradiction _ is (no_drain_cpu s p i at (nat_le max_turns s.turns) refl)
    by (Some c) at = entry c at (slice_get c.buffer i) refl
possible s (Persist line) is calm_step = by (nat_le (length s.shape) line) refl
  where
    by : (b : Bool) → nat_le (length s.shape) line ≡ b → Contains (possible_steps s) (Persist line)
    by true none = contradiction _ is (no_line s line none (nat_le max_turns s.turns) refl)
    by false there = in_persists s (Persist line) (numbered Persist 0 (length s.shape) line (omega arith) (grind (arith, nat_tests, there)))
possible s Settle is calm_step = Contains-append_right ((execs s ++ drains_from 0 s.processors) ++ persists s) (Settle ∷ []) Settle (here Settle [])
possible s Crash is calm_step = absurd (calm_step refl)

pub always : (s : State) (step : Step) → accepts s step ≡ true → step ≢ Crash → Contains (enabled_of s) step
always s step is calm_step = kept (accepts s) (possible_steps s) step is (possible s step is calm_step)

-- no possible is a crash
abbrev Calm : Step → Type 0
Calm (Exec p) = Unit {0}
Calm (Drain p i) = Unit {0}
Calm (Persist line) = Unit {0}
Calm Settle = Unit {0}
Calm Crash = ⊥

calm_numbered : (f : ℕ → Step) → ((k : ℕ) → Calm (f k)) → (a n : ℕ) (x : Step) → Contains (map f (range_with_len a n)) x → Calm x
calm_numbered f h a zero x c = absurd (omega (arith, c.1))
calm_numbered f h a (suc n) x c = ⊎_elim (λ (e : f a ≡ x). subst Calm e (h a)) (calm_numbered f h (a + 1) n x) (first_or_later x (f a) (map f (range_with_len (a + 1) n)) c)

calm_drains : (k : ℕ) (cs : List Processor) (x : Step) → Contains (drains_from k cs) x → Calm x
calm_drains k [] x c = absurd (omega (arith, c.1))
calm_drains k (p ∷ cs) x c = ⊎_elim (calm_numbered (Drain k) (λ i. tt) 0 (length p.buffer) x) (calm_drains (k + 1) cs x) (Contains-append_cases (drains_of k p) (drains_from (k + 1) cs) x c)

calm : (s : State) (x : Step) → Contains (possible_steps s) x → Calm x
calm s x c =
    let two : List Step = execs s ++ drains_from 0 s.processors in let three : List Step = two ++ persists s in
    ⊎_elim (λ c₃. ⊎_elim (λ c₂. ⊎_elim (calm_numbered Exec (λ p. tt) 0 (length s.processors) x) (calm_drains 0 s.processors x) (Contains-append_cases (execs s) (drains_from 0 s.processors) x c₂))
    (calm_numbered Persist (λ l. tt) 0 (length s.shape) x) (Contains-append_cases two (persists s) x c₃))
    (λ c₄. ⊎_elim (λ (e : Settle ≡ x). subst Calm e tt) (λ n. absurd (omega (arith, n.1))) (first_or_later x Settle [] c₄)) (Contains-append_cases three (Settle ∷ []) x c)

pub only : (s : State) (step : Step) → Contains (enabled_of s) step → (accepts s step ≡ true) × (step ≢ Crash)
only s step c = let p = passes (accepts s) (possible_steps s) step c in (p.0, λ (e : step ≡ Crash). subst Calm e (calm s step p.1))
