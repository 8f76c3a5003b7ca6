-- The pair that is found is the first that the loose run breaks.
use Rattle.std.proofs.Common.{◌≡◌, ℕ, ◌+◌, Option, None, Result, Ok, Err, List, [], ◌∷◌, ◌++◌, length, option_map, refl, sym, ◌∙◌, ap, subst, inl, inr, arith}
use Rattle.std.specs.Option.{option_and_then}
use Rattle.std.proofs.lemmas.List.{append_assoc, length-append}
use Rattle.std.proofs.lemmas.Option.{slice_get_within}
use Rattle.isa.specs.Objects.{Object}
use Rattle.machine.specs.declared.step.Step.{Step}
use Rattle.machine.specs.declared.step.Step.TheVariants.{Exec, Drain}
use Rattle.machine.specs.declared.step.Seen.{Seen}
use Rattle.machine.specs.declared.step.Seen.TheVariants.{Ran, Left}
use Rattle.machine.specs.declared.refusal.Refusal.{Refusal}
use Rattle.machine.specs.declared.refusal.Refusal.TheVariants.{BufferNotEmpty, Held}
use Rattle.machine.specs.declared.trace_law.Pair.{Pair}
use Rattle.machine.specs.Objects.{opening}
use Rattle.machine.specs.State.{State}
use Rattle.machine.specs.Steps.{step_of}
use Rattle.machine.specs.LooseSteps.{unordered, shown_on, loose_step_of, loose_run_of}
use Rattle.machine.specs.Effects.{delayed_in, IsAnswer}
use Rattle.machine.specs.TraceLaws.{pair_by, delayed_after, pair_if, law_after, law_on, law_of}
use Rattle.machine.proofs.HeldDrainNamesTheOldestHolder.{held_drain}
use Rattle.machine.proofs.DelayedInOneProcessor.{get_within}
use Rattle.machine.proofs.DelayedOperationsAreBuffered.{Keeps, keeps_first, step_keeps}
use Rattle.machine.proofs.FirstBrokenPair.{NoneBefore, answer_exec, answer_drain, answer_none, none_more}
use Rattle.machine.proofs.StepsWithoutOrderTests.{accepted_passes, passed_for_order, waits_there, unwaited, unheld_shows}

law_waits : (run later : List Seen) (s t : State) (p : ℕ) (seen : Seen) → Keeps run s → step_of s (Exec p) ≡ Err BufferNotEmpty
    → loose_step_of s (Exec p) ≡ Ok (seen, t) → NoneBefore (run ++ seen ∷ later) (length run)
    → IsAnswer (run ++ seen ∷ later) (pair_by (delayed_after run) (Exec p) BufferNotEmpty (length run))
law_waits run later s t p seen k e passed none =
    let w = waits_there s p e in
    let u = unwaited s t p seen w (sym (ap (unordered s (Exec p)) e) ∙ passed) in
    let x = k.tracks p w.cpu w.there in
    let first = get_within (delayed_in p run) 0 (omega (arith, w.waited.some, x.same_length)) in
    let before = subst (λ (y : Seen). NoneBefore (run ++ y ∷ later) (length run)) u.shown none in
    let answer = answer_exec run later p w.cpu.place first.0 u.act w.cpu.buffer x u.fence first.1 before in
    let named = ap (option_map (λ (a : ℕ). record { cpu = p; first = a; second = length run; at = length run })) first.1 in
    subst (λ (y : Seen). IsAnswer (run ++ y ∷ later) (pair_by (delayed_after run) (Exec p) BufferNotEmpty (length run))) (sym u.shown)
    (subst (λ (found : Option Pair). IsAnswer (run ++ Ran p w.cpu.place u.act ∷ later) found) (sym named) answer)

law_held : (run later : List Seen) (s t : State) (p i holder : ℕ) (seen : Seen) → Keeps run s → step_of s (Drain p i) ≡ Err (Held holder)
    → loose_step_of s (Drain p i) ≡ Ok (seen, t) → NoneBefore (run ++ seen ∷ later) (length run)
    → IsAnswer (run ++ seen ∷ later) (pair_by (delayed_after run) (Drain p i) (Held holder) (length run))
law_held run later s t p i holder seen k e passed none =
    let h = held_drain s p i holder e in
    let shown = unheld_shows s t p i h.0 h.1 seen h.2 h.3 (sym (ap (unordered s (Drain p i)) e) ∙ passed) in
    let x = k.tracks p h.0 h.2 in
    let within = slice_get_within h.0.buffer i h.1 h.3 in
    let first = get_within (delayed_in p run) holder (omega (arith, h.4.earlier, within, x.same_length)) in
    let second = get_within (delayed_in p run) i (omega (arith, within, x.same_length)) in
    let before = subst (λ (y : Seen). NoneBefore (run ++ y ∷ later) (length run)) shown none in
    let answer = answer_drain run later p i holder first.0 second.0 h.1 h.0.buffer x h.3 h.4 first.1 second.1 before in
    let named = ap (option_and_then (λ (a : ℕ). option_map (λ (b : ℕ). record { cpu = p; first = a; second = b; at = length run }) (delayed_after run p i))) first.1
    ∙ ap (option_map (λ (b : ℕ). record { cpu = p; first = first.0; second = b; at = length run })) second.1 in
    subst (λ (y : Seen). IsAnswer (run ++ y ∷ later) (pair_by (delayed_after run) (Drain p i) (Held holder) (length run))) (sym shown)
    (subst (λ (found : Option Pair). IsAnswer (run ++ Left p i h.1 ∷ later) found) (sym named) answer)

law_refused : (run later : List Seen) (s t : State) (step : Step) (seen : Seen) (refusal : Refusal) → Keeps run s → step_of s step ≡ Err refusal
    → loose_step_of s step ≡ Ok (seen, t) → NoneBefore (run ++ seen ∷ later) (length run)
    → IsAnswer (run ++ seen ∷ later) (pair_by (delayed_after run) step refusal (length run))
law_refused run later s t step seen refusal k e passed none =
    elim (passed_for_order s t step refusal seen e passed) [
      | inl w ↦
          let refused : step_of s (Exec w.0) ≡ Err BufferNotEmpty = ap (λ (y : Step). step_of s y) (sym w.1) ∙ e ∙ ap (λ (r : Refusal). Err r) w.2 in
          let goes : loose_step_of s (Exec w.0) ≡ Ok (seen, t) = ap (λ (y : Step). loose_step_of s y) (sym w.1) ∙ passed in
          subst (λ (y : Step). IsAnswer (run ++ seen ∷ later) (pair_by (delayed_after run) y refusal (length run))) (sym w.1)
          (subst (λ (r : Refusal). IsAnswer (run ++ seen ∷ later) (pair_by (delayed_after run) (Exec w.0) r (length run))) (sym w.2)
          (law_waits run later s t w.0 seen k refused goes none))
      | inr h ↦
          let refused : step_of s (Drain h.0 h.1) ≡ Err (Held h.2) = ap (λ (y : Step). step_of s y) (sym h.3) ∙ e ∙ ap (λ (r : Refusal). Err r) h.4 in
          let goes : loose_step_of s (Drain h.0 h.1) ≡ Ok (seen, t) = ap (λ (y : Step). loose_step_of s y) (sym h.3) ∙ passed in
          subst (λ (y : Step). IsAnswer (run ++ seen ∷ later) (pair_by (delayed_after run) y refusal (length run))) (sym h.3)
          (subst (λ (r : Refusal). IsAnswer (run ++ seen ∷ later) (pair_by (delayed_after run) (Drain h.0 h.1) r (length run))) (sym h.4)
          (law_held run later s t h.0 h.1 h.2 seen k refused goes none))
    ]

law_at : (run whole : List Seen) (s : State) (step : Step) (steps : List Step) (refusal : Refusal) (loose : Result (Seen × State) Refusal) → Keeps run s
    → step_of s step ≡ Err refusal → loose_step_of s step ≡ loose → whole ≡ run ++ shown_on loose (loose_run_of steps) → NoneBefore whole (length run)
    → IsAnswer whole (pair_if loose (pair_by (delayed_after run) step refusal (length run)))
law_at run whole s step steps refusal (Err other) k e passed is none =
    subst (λ (l : List Seen). IsAnswer l None) (sym is) (answer_none run [] refl (subst (λ (l : List Seen). NoneBefore l (length run)) is none))
law_at run whole s step steps refusal (Ok done) k e passed is none =
    subst (λ (l : List Seen). IsAnswer l (pair_by (delayed_after run) step refusal (length run))) (sym is)
    (law_refused run (loose_run_of steps done.1) s done.1 step done.0 refusal k e passed (subst (λ (l : List Seen). NoneBefore l (length run)) is none))

abbrev IsLaw : List Step → Type 0
IsLaw steps = (run whole : List Seen) (s : State) → Keeps run s → whole ≡ run ++ loose_run_of steps s → NoneBefore whole (length run) → IsAnswer whole (law_on steps run s)

step_law : (step : Step) (steps : List Step) (run whole : List Seen) (s : State) (did : Result (Seen × State) Refusal) → step_of s step ≡ did → IsLaw steps → Keeps run s
    → whole ≡ run ++ loose_run_of (step ∷ steps) s → NoneBefore whole (length run) → IsAnswer whole (law_after run s step did (law_on steps))
step_law step steps run whole s (Err refusal) e rest k is none = law_at run whole s step steps refusal (loose_step_of s step) k e refl is none
step_law step steps run whole s (Ok done) e rest k is none =
    let later = loose_run_of steps done.1 in
    let shown : loose_run_of (step ∷ steps) s ≡ done.0 ∷ later =
    ap (λ (r : Result (Seen × State) Refusal). shown_on r (loose_run_of steps)) (accepted_passes s done.1 step done.0 e) in
    let here : whole ≡ run ++ done.0 ∷ later = is ∙ ap (λ (l : List Seen). run ++ l) shown in
    let next : whole ≡ (run ++ done.0 ∷ []) ++ later = here ∙ sym (append_assoc run (done.0 ∷ []) later) in
    let long : length (run ++ done.0 ∷ []) ≡ length run + 1 = length-append run (done.0 ∷ []) in
    let more = none_more run later s done.1 step done.0 k e (subst (λ (l : List Seen). NoneBefore l (length run)) here none) in
    let before : NoneBefore whole (length (run ++ done.0 ∷ [])) =
    subst (λ (n : ℕ). NoneBefore whole n) (sym long) (subst (λ (l : List Seen). NoneBefore l (length run + 1)) (sym here) more) in
    rest (run ++ done.0 ∷ []) whole done.1 (step_keeps run s done.1 step done.0 k e) next before

is_law : (steps : List Step) → IsLaw steps
is_law [] run whole s k is none =
    subst (λ (l : List Seen). IsAnswer l None) (sym is) (answer_none run [] refl (subst (λ (l : List Seen). NoneBefore l (length run)) is none))
is_law (step ∷ steps) run whole s k is none = step_law step steps run whole s (step_of s step) refl (is_law steps) k is none

pub law_answers : (o : Object) (steps : List Step) → IsAnswer (loose_run_of steps (opening o)) (law_of o steps)
law_answers o steps = is_law steps [] (loose_run_of steps (opening o)) (opening o) (keeps_first o) refl (λ p first second at before x. absurd (omega (arith, before)))
