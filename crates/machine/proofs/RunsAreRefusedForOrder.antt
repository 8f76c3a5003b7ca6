-- A run is refused for its order by the step that breaks the first pair of its loose run.
use Rattle.std.proofs.Common.{◌≡◌, ℕ, suc, ◌+◌, true, Option, Some, None, Result, Ok, Err, List, [], ◌∷◌, ◌++◌, length, option_map, refl, sym, ◌∙◌, ap, subst, inl, inr, arith}
use Rattle.std.specs.Prelude.{IfOk, IfSome, slice_get}
use Rattle.std.specs.Option.{option_and_then}
use Rattle.std.proofs.lemmas.List.{append_assoc, append-nil, length-append}
use Rattle.std.proofs.lemmas.Option.{same_Some, slice_get_within}
use Rattle.isa.specs.Objects.{Object}
use Rattle.machine.specs.declared.step.Step.{Step}
use Rattle.machine.specs.declared.step.Step.TheVariants.{Exec, Drain}
use Rattle.machine.specs.declared.step.Seen.{Seen}
use Rattle.machine.specs.declared.refusal.Refusal.{Refusal}
use Rattle.machine.specs.declared.refusal.Refusal.TheVariants.{BufferNotEmpty, Held}
use Rattle.machine.specs.declared.trace_law.Pair.{Pair}
use Rattle.machine.specs.Objects.{opening}
use Rattle.machine.specs.State.{Processor, State}
use Rattle.machine.specs.Buffered.{AreBuffered}
use Rattle.machine.specs.Steps.{End, end_after, step_of, run_of}
use Rattle.machine.specs.LooseSteps.{IsRefusedForOrder, is_for_order, shown_on, loose_step_of, loose_run_of}
use Rattle.machine.specs.Effects.{delayed_in, IsFirstBroken, IsAnswer}
use Rattle.machine.specs.TraceLaws.{pair_by, delayed_after, pair_if, law_after, law_on, law_of}
use Rattle.machine.proofs.DelayedOperationsAreBuffered.{Keeps, keeps_first, step_keeps}
use Rattle.machine.proofs.HeldDrainNamesTheOldestHolder.{held_drain}
use Rattle.machine.proofs.DelayedInOneProcessor.{get_within}
use Rattle.machine.proofs.StepsWithoutOrderTests.{accepted_passes, passed_for_order, waits_there}
use Rattle.machine.proofs.OrderHasOneAnswer.{one_answer}
use Rattle.machine.proofs.LawIsTheAnswer.{law_answers}

-- a run that showed n steps before is refused for its order, by the step of the pair
abbrev RefusedAt : ℕ → End → Pair → Type 0
RefusedAt n end pair = (refusal : Refusal) × (end.refusal ≡ Some refusal) × (is_for_order refusal ≡ true) × (n + end.accepted ≡ pair.at)

-- a pair that is found stands at the step that broke it
module _ (p n : ℕ) (pair : Pair) where
  waits_at : (first : Option ℕ) → option_map (λ (a : ℕ). record { cpu = p; first = a; second = n; at = n }) first ≡ Some pair → n ≡ pair.at
  waits_at None e = absurd (cc)
  waits_at (Some a) e = ap (λ (x : Pair). x.at) (same_Some (record { cpu = p; first = a; second = n; at = n }) pair e)

  held_at : (first second : Option ℕ)
      → option_and_then (λ (a : ℕ). option_map (λ (b : ℕ). record { cpu = p; first = a; second = b; at = n }) second) first ≡ Some pair → n ≡ pair.at
  held_at None second e = absurd (cc)
  held_at (Some a) None e = absurd (cc)
  held_at (Some a) (Some b) e = ap (λ (x : Pair). x.at) (same_Some (record { cpu = p; first = a; second = b; at = n }) pair e)

passed_at : (look : ℕ → ℕ → Option ℕ) (s t : State) (step : Step) (refusal : Refusal) (seen : Seen) (n : ℕ) (pair : Pair) → step_of s step ≡ Err refusal
    → loose_step_of s step ≡ Ok (seen, t) → pair_by look step refusal n ≡ Some pair → (is_for_order refusal ≡ true) × (n ≡ pair.at)
passed_at look s t step refusal seen n pair e passed found =
    elim (passed_for_order s t step refusal seen e passed) [
      | inl w ↦
          let waits : pair_by look (Exec w.0) BufferNotEmpty n ≡ Some pair = rw (w.1, w.2) at found in
          (ap is_for_order w.2, waits_at w.0 n pair (look w.0 0) waits)
      | inr h ↦
          let step_is : step ≡ Drain h.0 h.1 = h.3 in
          let refusal_is : refusal ≡ Held h.2 = h.4 in
          let held : pair_by look (Drain h.0 h.1) (Held h.2) n ≡ Some pair = rw (step_is, refusal_is) at found in
          (ap is_for_order refusal_is, held_at h.0 n pair (look h.0 h.2) (look h.0 h.1) held)
    ]

loose_at : (look : ℕ → ℕ → Option ℕ) (s : State) (step : Step) (refusal : Refusal) (n : ℕ) (pair : Pair) (loose : Result (Seen × State) Refusal) → step_of s step ≡ Err refusal
    → loose_step_of s step ≡ loose → pair_if loose (pair_by look step refusal n) ≡ Some pair → (is_for_order refusal ≡ true) × (n ≡ pair.at)
loose_at look s step refusal n pair (Ok done) e passed found = passed_at look s done.1 step refusal done.0 n pair e passed found
loose_at look s step refusal n pair (Err other) e refused found = absurd (cc (found))

abbrev IsRefused : List Step → Type 0
IsRefused steps = (run : List Seen) (s : State) (pair : Pair) → law_on steps run s ≡ Some pair → RefusedAt (length run) (run_of steps s) pair

step_refused : (step : Step) (steps : List Step) (run : List Seen) (s : State) (pair : Pair) (did : Result (Seen × State) Refusal) → step_of s step ≡ did → IsRefused steps
    → law_after run s step did (law_on steps) ≡ Some pair → RefusedAt (length run) (end_after s did (run_of steps)) pair
step_refused step steps run s pair (Err refusal) e rest found =
    let there = loose_at (delayed_after run) s step refusal (length run) pair (loose_step_of s step) e refl found in
    (refusal, refl, there.0, omega (arith, there.1))
step_refused step steps run s pair (Ok done) e rest found =
    let later = rest (run ++ done.0 ∷ []) done.1 pair found in
    let long : length (run ++ done.0 ∷ []) ≡ length run + 1 = length-append run (done.0 ∷ []) in
    (later.0, later.1, later.2, omega (arith, later.3, long))

is_refused : (steps : List Step) → IsRefused steps
is_refused [] run s pair found = absurd (cc (found))
is_refused (step ∷ steps) run s pair found = step_refused step steps run s pair (step_of s step) refl (is_refused steps) found

-- the step of the first broken pair is where the run is refused, for its order
pub refused_for_order : (o : Object) (steps : List Step) (pair : Pair) → IsFirstBroken (loose_run_of steps (opening o)) pair
    → IsRefusedForOrder pair.at (run_of steps (opening o))
refused_for_order o steps pair x =
    let found = one_answer (loose_run_of steps (opening o)) (law_of o steps) (Some pair) (law_answers o steps) x in
    let r = is_refused steps [] (opening o) pair found in
    record { refusal = r.0; refused = r.1; for_order = r.2; accepted = omega (arith, r.3) }

-- and so it is where a pair is answered
pub answer_is_refused : (o : Object) (steps : List Step) (found : Option Pair) → IsAnswer (loose_run_of steps (opening o)) found
    → IfSome found (λ pair. IsRefusedForOrder pair.at (run_of steps (opening o)))
answer_is_refused o steps None x = tt
answer_is_refused o steps (Some pair) x = refused_for_order o steps pair x

pub answered_in_order : {E : Type 0} (o : Object) (steps : List Step) (answer : Result (Option Pair) E) → IfOk answer (IsAnswer (loose_run_of steps (opening o)))
    → IfOk answer (λ found. IfSome found (λ pair. IsRefusedForOrder pair.at (run_of steps (opening o))))
answered_in_order o steps (Ok found) x = answer_is_refused o steps found x
answered_in_order o steps (Err e) x = tt

-- a run that is not refused breaks no pair
none_found : (o : Object) (steps : List Step) (found : Option Pair) → law_of o steps ≡ found → (run_of steps (opening o)).refusal ≡ None
    → IsAnswer (loose_run_of steps (opening o)) None
none_found o steps None e unrefused = subst (λ (x : Option Pair). IsAnswer (loose_run_of steps (opening o)) x) e (law_answers o steps)
none_found o steps (Some pair) e unrefused =
    let r = is_refused steps [] (opening o) pair e in
    let bad : ◌≡◌ {A = Option Refusal} None (Some r.0) = sym unrefused ∙ r.1 in
    absurd (cc)

pub accepted_in_order : (o : Object) (steps : List Step) → (run_of steps (opening o)).refusal ≡ None → IsAnswer (loose_run_of steps (opening o)) None
accepted_in_order o steps unrefused = none_found o steps (law_of o steps) refl unrefused

-- a step that is refused for its order alone breaks a pair
module _ (run : List Seen) (s : State) (k : Keeps run s) where
  waits_found : (p : ℕ) → step_of s (Exec p) ≡ Err BufferNotEmpty → (pair : Pair) × (pair_by (delayed_after run) (Exec p) BufferNotEmpty (length run) ≡ Some pair)
  waits_found p e =
      let w = waits_there s p e in
      let x = k.tracks p w.cpu w.there in
      let first = get_within (delayed_in p run) 0 (omega (arith, w.waited.some, x.same_length)) in (
        record { cpu = p; first = first.0; second = length run; at = length run },
        ap (option_map (λ (a : ℕ). record { cpu = p; first = a; second = length run; at = length run })) first.1,
      )

  held_found : (p i holder : ℕ) → step_of s (Drain p i) ≡ Err (Held holder) → (pair : Pair) × (pair_by (delayed_after run) (Drain p i) (Held holder) (length run) ≡ Some pair)
  held_found p i holder e =
      let h = held_drain s p i holder e in
      let x = k.tracks p h.0 h.2 in
      let within = slice_get_within h.0.buffer i h.1 h.3 in
      let first = get_within (delayed_in p run) holder (omega (arith, h.4.earlier, within, x.same_length)) in
      let second = get_within (delayed_in p run) i (omega (arith, within, x.same_length)) in (
        record { cpu = p; first = first.0; second = second.0; at = length run },
        ap (option_and_then (λ (a : ℕ). option_map (λ (b : ℕ). record { cpu = p; first = a; second = b; at = length run }) (delayed_after run p i))) first.1
            ∙ ap (option_map (λ (b : ℕ). record { cpu = p; first = first.0; second = b; at = length run })) second.1,
      )

  passed_found : (t : State) (step : Step) (seen : Seen) (refusal : Refusal) → step_of s step ≡ Err refusal → loose_step_of s step ≡ Ok (seen, t)
      → (pair : Pair) × (pair_by (delayed_after run) step refusal (length run) ≡ Some pair)
  passed_found t step seen refusal e passed =
      elim (passed_for_order s t step refusal seen e passed) [
        | inl w ↦
            let refused : step_of s (Exec w.0) ≡ Err BufferNotEmpty = ap (λ (y : Step). step_of s y) (sym w.1) ∙ e ∙ ap (λ (r : Refusal). Err r) w.2 in
            let found = waits_found w.0 refused in
            (found.0, ap (λ (y : Step). pair_by (delayed_after run) y refusal (length run)) w.1 ∙ ap (λ (r : Refusal). pair_by (delayed_after run) (Exec w.0) r (length run)) w.2 ∙ found.1)
        | inr h ↦
            let refused : step_of s (Drain h.0 h.1) ≡ Err (Held h.2) = ap (λ (y : Step). step_of s y) (sym h.3) ∙ e ∙ ap (λ (r : Refusal). Err r) h.4 in
            let found = held_found h.0 h.1 h.2 refused in
            (found.0, ap (λ (y : Step). pair_by (delayed_after run) y refusal (length run)) h.3 ∙ ap (λ (r : Refusal). pair_by (delayed_after run) (Drain h.0 h.1) r (length run)) h.4 ∙ found.1)
      ]

-- where the step at which steps are refused is made once its order is not asked, a pair is found
abbrev Finds : List Step → Type 0
Finds steps = (run : List Seen) (s t : State) (step : Step) (seen : Seen) (refusal : Refusal) → Keeps run s → (run_of steps s).refusal ≡ Some refusal
    → slice_get steps (run_of steps s).accepted ≡ Some step → loose_step_of (run_of steps s).state step ≡ Ok (seen, t) → (pair : Pair) × (law_on steps run s ≡ Some pair)

found_after : (first : Step) (steps : List Step) (run : List Seen) (s t : State) (step : Step) (seen : Seen) (refusal : Refusal) (did : Result (Seen × State) Refusal)
    → step_of s first ≡ did → Finds steps → Keeps run s → (end_after s did (run_of steps)).refusal ≡ Some refusal
    → slice_get (first ∷ steps) (end_after s did (run_of steps)).accepted ≡ Some step → loose_step_of (end_after s did (run_of steps)).state step ≡ Ok (seen, t)
    → (pair : Pair) × (law_after run s first did (law_on steps) ≡ Some pair)
found_after first steps run s t step seen refusal (Err other) e rest k refused there passed =
    let same : first ≡ step = same_Some first step there in
    let goes : loose_step_of s first ≡ Ok (seen, t) = ap (λ (y : Step). loose_step_of s y) same ∙ passed in
    let found = passed_found run s k t first seen other e goes in
    (found.0, ap (λ (r : Result (Seen × State) Refusal). pair_if r (pair_by (delayed_after run) first other (length run))) goes ∙ found.1)
found_after first steps run s t step seen refusal (Ok done) e rest k refused there passed =
    let next : (run_of steps done.1).accepted + 1 ≡ suc (run_of steps done.1).accepted = omega arith in
    let later : slice_get steps (run_of steps done.1).accepted ≡ Some step = subst (λ (n : ℕ). slice_get (first ∷ steps) n ≡ Some step) next there in
    rest (run ++ done.0 ∷ []) done.1 t step seen refusal (step_keeps run s done.1 first done.0 k e) refused later passed

finds : (steps : List Step) → Finds steps
finds [] run s t step seen refusal k refused there passed = absurd (cc (refused))
finds (first ∷ steps) run s t step seen refusal k refused there passed = found_after first steps run s t step seen refusal (step_of s first) refl (finds steps) k refused there passed

-- the step at which a run is refused breaks the first pair, where it is made once its order is not asked
pub order_is_broken : (o : Object) (steps : List Step) (step : Step) (refusal : Refusal) (seen : Seen) (t : State) → (run_of steps (opening o)).refusal ≡ Some refusal
    → slice_get steps (run_of steps (opening o)).accepted ≡ Some step → loose_step_of (run_of steps (opening o)).state step ≡ Ok (seen, t)
    → (pair : Pair) × IsFirstBroken (loose_run_of steps (opening o)) pair × (pair.at ≡ (run_of steps (opening o)).accepted)
order_is_broken o steps step refusal seen t refused there passed =
    let found = finds steps [] (opening o) t step seen refusal (keeps_first o) refused there passed in
    let first = subst (λ (x : Option Pair). IsAnswer (loose_run_of steps (opening o)) x) found.1 (law_answers o steps) in
    let r = is_refused steps [] (opening o) found.0 found.1 in
    (found.0, first, omega (arith, r.3))

-- what a run that is not refused keeps
abbrev RunsOn : List Step → Type 0
RunsOn steps = (run : List Seen) (s : State) → Keeps run s → (run_of steps s).refusal ≡ None → Keeps (run ++ loose_run_of steps s) (run_of steps s).state

went_on : (step : Step) (steps : List Step) → RunsOn steps → (run : List Seen) (s : State) (did : Result (Seen × State) Refusal) → step_of s step ≡ did → Keeps run s
    → (end_after s did (run_of steps)).refusal ≡ None → Keeps (run ++ loose_run_of (step ∷ steps) s) (end_after s did (run_of steps)).state
went_on step steps rest run s (Err refusal) is k e = absurd (cc (e))
went_on step steps rest run s (Ok done) is k e =
    let shown : loose_run_of (step ∷ steps) s ≡ done.0 ∷ loose_run_of steps done.1 =
    ap (λ (r : Result (Seen × State) Refusal). shown_on r (loose_run_of steps)) (accepted_passes s done.1 step done.0 is) in
    let whole : run ++ loose_run_of (step ∷ steps) s ≡ (run ++ done.0 ∷ []) ++ loose_run_of steps done.1 =
    ap (λ (l : List Seen). run ++ l) shown ∙ sym (append_assoc run (done.0 ∷ []) (loose_run_of steps done.1)) in
    subst (λ (l : List Seen). Keeps l (run_of steps done.1).state) (sym whole)
    (rest (run ++ done.0 ∷ []) done.1 (step_keeps run s done.1 step done.0 k is) e)

runs_on : (steps : List Step) → RunsOn steps
runs_on [] run s k e = subst (λ (l : List Seen). Keeps l s) (sym (append-nil run)) k
runs_on (step ∷ steps) run s k e = went_on step steps (runs_on steps) run s (step_of s step) refl k e

pub run_buffers : (o : Object) (steps : List Step) (p : ℕ) (c : Processor) → (run_of steps (opening o)).refusal ≡ None
    → slice_get (run_of steps (opening o)).state.processors p ≡ Some c
    → AreBuffered (loose_run_of steps (opening o)) p (delayed_in p (loose_run_of steps (opening o))) c.buffer
run_buffers o steps p c unrefused there = (runs_on steps [] (opening o) (keeps_first o) unrefused).tracks p c there
