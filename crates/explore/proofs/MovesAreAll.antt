-- The moves of a state are all that its processors may do.
use Rattle.std.proofs.Common.{◌≡◌, ℕ, zero, suc, ◌+◌, ◌<◌, ◌≤◌, inl, inr, Bool, true, false, Option, Some, None, Result, Ok, Err, List, [], ◌∷◌, length, map, refl, sym, ap, ap₂, subst, ◌∙◌, arith, true≢false}
use Rattle.std.specs.Prelude.{◌⊎◌, ◌&&◌, Contains, nat_lt, remove, slice_get}
use Rattle.std.specs.List.{list_all, range_with_len}
use Rattle.std.proofs.lemmas.Bool.{and_parts, cases_Bool}
use Rattle.std.proofs.lemmas.Bool.Decides.{nat_tests}
use Rattle.std.proofs.lemmas.List.Elements.{Contains-append_left, Contains-append_right}
use Rattle.std.proofs.lemmas.List.Folds.{list_all-append}
use Rattle.std.proofs.lemmas.List.FromFn.{get_or-range_with_len, length-range_with_len}
use Rattle.std.proofs.lemmas.Option.{slice_get_past}
use Rattle.store_buffer.specs.declared.entry.Entry.{Entry}
use Rattle.store_buffer.specs.declared.fault.BufferFault.{BufferFault}
use Rattle.store_buffer.specs.declared.fault.BufferFault.TheVariants as faults
use Rattle.store_buffer.specs.Buffers.{holder_of, take_of}
use Rattle.outcomes.specs.Outcomes.{◌>>=◌, refuse_some, refused_as, required}
use Rattle.persist_buffer.specs.State.{Memory}
use Rattle.machine.specs.declared.refusal.Refusal.{Refusal}
use Rattle.machine.specs.declared.refusal.Refusal.TheVariants.{NoCpu, NoEntry}
use Rattle.machine.specs.declared.step.Step.{Step}
use Rattle.machine.specs.declared.step.Step.TheVariants.{Exec, Drain, Persist, Settle, Crash}
use Rattle.machine.specs.Limits.{max_turns}
use Rattle.machine.specs.Processors.{drain_of, receive_of}
use Rattle.machine.specs.Refusals.{of_buffer, of_pending}
use Rattle.machine.specs.State.{Processor, State}
use Rattle.machine.specs.Steps.{step_of}
use Rattle.machine.proofs.PersistAndSettleStepsSplit.{not_past}
use Rattle.machine.proofs.ProcessorSteps.{drain_done, drain_found, drain_is, exec_found, exec_is}
use Rattle.explore.specs.Questions.{is_move, is_room}
use Rattle.explore.specs.Found.{moves_at, moves_from, moves_of}
use Rattle.explore.proofs.FoundPaths.{contains_map, first_or_later, first_there, later_there}
use Rattle.explore.proofs.Visits.{nothing_there}

-- a step of processor p is one of those of processors of which the first has the number q
module _ (step : ℕ → Step) (c : Processor) (own : (p : ℕ) → Contains (moves_at p c) (step p)) where
  move_from : (q : ℕ) (cpus : List Processor) (p : ℕ) → slice_get cpus p ≡ Some c → Contains (moves_from q cpus) (step (q + p))
  move_from q [] p there = absurd (cc)
  move_from q (x ∷ cpus) zero there =
      let here : x ≡ c = cc in
      let number : q ≡ q + 0 = omega arith in
      Contains-append_left (moves_at q x) (moves_from (q + 1) cpus) (step (q + 0)) (subst (λ (n : ℕ). Contains (moves_at q x) (step n)) number (subst (λ (y : Processor). Contains (moves_at q y) (step q)) (sym here) (own q)))
  move_from q (x ∷ cpus) (suc p) there =
      let number : q + 1 + p ≡ q + suc p = omega arith in
      Contains-append_right (moves_at q x) (moves_from (q + 1) cpus) (step (q + suc p)) (subst (λ (n : ℕ). Contains (moves_from (q + 1) cpus) (step n)) number (move_from (q + 1) cpus p there))

  move_of : (cpus : List Processor) (p : ℕ) → slice_get cpus p ≡ Some c → Contains (moves_from 0 cpus) (step p)
  move_of cpus p there = let number : 0 + p ≡ p = omega arith in subst (λ (n : ℕ). Contains (moves_from 0 cpus) (step n)) number (move_from 0 cpus p there)

in_range : (n i : ℕ) → i < n → Contains (range_with_len 0 n) i
in_range n i less =
    let long = length-range_with_len 0 n in
    let number : 0 + i ≡ i = omega arith in
    (i, omega (arith, long, less), get_or-range_with_len 0 n i i less ∙ number)

-- what a step is that is not tried
abbrev Is : State → Step → Type 0
Is s step = Contains (moves_of s) step ⊎ ((refusal : Refusal) × (step_of s step ≡ Err refusal) × (is_room refusal ≡ false))

exec_by : (s : State) (p : ℕ) (there : Option Processor) → s.turns < max_turns → slice_get s.processors p ≡ there → Is s (Exec p)
exec_by s p (Some c) time there = inl (move_of (λ q. Exec q) c (λ q. first_there (Exec q) (map (Drain q) (range_with_len 0 (length c.buffer)))) s.processors p there)
exec_by s p None time there = inr (NoCpu, exec_is s p (not_past s.turns max_turns time) ∙ ap (exec_found s p) there, refl)

taken : (buffer : List Entry) (i : ℕ) → slice_get buffer i ≡ None → take_of buffer i ≡ Err faults.NoEntry
taken buffer i none = ap (λ (o : Option Entry). (required faults.NoEntry o >>= λ entry. refuse_some faults.Held (holder_of buffer i entry) >>= λ free. Ok entry) >>= λ entry. Ok (entry, remove buffer i)) none

not_there : (c : Processor) (m : Memory) (i : ℕ) → slice_get c.buffer i ≡ None → drain_of c m i ≡ Err NoEntry
not_there c m i none =
    ap (λ (r : Result (Entry × List Entry) BufferFault). refused_as of_buffer r >>= λ left. refused_as of_pending (receive_of m left.0) >>= λ after. Ok (left.0, (record c { buffer = left.1 }, after))) (taken c.buffer i none)

drain_by : (s : State) (p i : ℕ) (there : Option Processor) → s.turns < max_turns → slice_get s.processors p ≡ there → Is s (Drain p i)
drain_by s p i (Some c) time there =
    elim (cases_Bool (nat_lt i (length c.buffer))) [
      | inl less ↦
          let within : i < length c.buffer = grind (arith, nat_tests, less) in
          inl (move_of (λ q. Drain q i) c (λ q. later_there (Exec q) (Drain q i) (map (Drain q) (range_with_len 0 (length c.buffer))) (contains_map (Drain q) (range_with_len 0 (length c.buffer)) i (in_range (length c.buffer) i within))) s.processors p there)
      | inr past ↦
          let none : length c.buffer ≤ i = grind (arith, nat_tests, past) in
          inr (NoEntry, drain_is s p i (not_past s.turns max_turns time) ∙ ap (drain_found s p i) there ∙ ap (drain_done s p i) (not_there c s.memory i (slice_get_past c.buffer i none)), refl)
    ]
drain_by s p i None time there = inr (NoCpu, drain_is s p i (not_past s.turns max_turns time) ∙ ap (drain_found s p i) there, refl)

pub moves_are_all : (s : State) (step : Step) → s.turns < max_turns → is_move step ≡ true → Is s step
moves_are_all s (Exec p) time move = exec_by s p (slice_get s.processors p) time refl
moves_are_all s (Drain p i) time move = drain_by s p i (slice_get s.processors p) time refl
moves_are_all s (Persist line) time move = absurd (true≢false (sym move))
moves_are_all s Settle time move = absurd (true≢false (sym move))
moves_are_all s Crash time move = absurd (true≢false (sym move))

-- ---- the steps that are tried are moves

all_hold : {A : Type 0} (p : A → Bool) (xs : List A) (x : A) → list_all p xs ≡ true → Contains xs x → p x ≡ true
all_hold p [] x all there = absurd (nothing_there x there)
all_hold p (y ∷ xs) x all there =
    let both = and_parts (p y) (list_all p xs) all in
    elim (first_or_later y x xs there) [
      | inl same ↦ ap p (sym same) ∙ both.0
      | inr later ↦ all_hold p xs x both.1 later
    ]

drains_move : (p : ℕ) (places : List ℕ) → list_all is_move (map (Drain p) places) ≡ true
drains_move p [] = refl
drains_move p (i ∷ places) = drains_move p places

all_move : (q : ℕ) (cpus : List Processor) → list_all is_move (moves_from q cpus) ≡ true
all_move q [] = refl
all_move q (c ∷ cpus) =
    list_all-append is_move (moves_at q c) (moves_from (q + 1) cpus) ∙ ap₂ (λ (a b : Bool). a && b) (drains_move q (range_with_len 0 (length c.buffer))) (all_move (q + 1) cpus)

pub moves_move : (s : State) (step : Step) → Contains (moves_of s) step → is_move step ≡ true
moves_move s step there = all_hold is_move (moves_of s) step (all_move 0 s.processors) there
