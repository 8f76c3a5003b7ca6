-- A run of a machine beside what is kept of it, up to the first refusal, and the pair that is found there.
use Rattle.std.proofs.Common.{◌≡◌, ℕ, zero, suc, ◌+◌, Option, Some, None, Result, Ok, Err, List, [], ◌∷◌, ◌++◌, length, take, drop, map, option_map, refl, sym, ◌∙◌, ap, subst, inl, inr, arith}
use Rattle.std.specs.Prelude.{slice_get}
use Rattle.std.specs.Option.{option_and_then}
use Rattle.std.proofs.lemmas.List.{length-append, length-map}
use Rattle.std.proofs.lemmas.Option.{slice_get_within, slice_get-map}
use Rattle.std.proofs.Math.Seq.{drop-length, take-append_seam}
use Rattle.outcomes.specs.Outcomes.{tested}
use Rattle.isa.specs.declared.programs.Programs.{Programs}
use Rattle.isa.specs.Objects.{Object}
use Rattle.store_buffer.specs.declared.entry.Entry.{Entry}
use Rattle.persist_buffer.specs.State.{Memory}
use Rattle.processor.specs.declared.act.Act.{Act}
use Rattle.processor.specs.declared.act.Act.TheVariants.{Local, Fence, Read, Delay, Locked, Trap}
use Rattle.processor.specs.Acts.{IsShown}
use Rattle.machine.specs.declared.step.Step.{Step}
use Rattle.machine.specs.declared.step.Step.TheVariants.{Exec, Drain, Persist, Settle, Crash}
use Rattle.machine.specs.declared.step.Seen.{Seen}
use Rattle.machine.specs.declared.step.Seen.TheVariants.{Ran}
use Rattle.machine.specs.declared.refusal.Refusal.{Refusal}
use Rattle.machine.specs.declared.refusal.Refusal.TheVariants.{BufferNotEmpty, Held}
use Rattle.machine.specs.declared.trace_law.Pair.{Pair}
use Rattle.machine.specs.Objects.{opening}
use Rattle.machine.specs.State.{Processor, State}
use Rattle.machine.specs.Processors.{programs_of, contents_of}
use Rattle.machine.specs.Steps.{step_of}
use Rattle.machine.specs.Effects.{delayed_next, delayed_in, IsAnswer}
use Rattle.machine.specs.LooseSteps.{loose_step_of, loose_run_of}
use Rattle.machine.specs.TraceLaws.{pair_by, delayed_after, pair_if, law_after, law_on, law_of}
use Rattle.machine.specs.Buffered.{AreBuffered}
use Rattle.machine.specs.Noted.{CanNote, IsNoted, delayed_at}
use Rattle.machine.proofs.PersistAndSettleStepsSplit.{persist_only, settle_only}
use Rattle.machine.proofs.HeldDrainNamesTheOldestHolder.{held_drain}
use Rattle.machine.proofs.ProcessorSteps.{exec_only, drain_only}
use Rattle.machine.proofs.ProgramsStay.{step_sibling}
use Rattle.machine.proofs.ExecShowsAll.{exec_shown}
use Rattle.machine.proofs.DelayedInOneProcessor.{delayed_in_more, get_within}
use Rattle.machine.proofs.DelayedOperationsAreBuffered.{Keeps, keeps_first, crash_seen, step_keeps}
use Rattle.machine.proofs.AcceptedStepsBreakNoPair.{at_split}
use Rattle.machine.proofs.StepsWithoutOrderTests.{passed_for_order, waits_there}
use Rattle.machine.proofs.LawIsTheAnswer.{law_answers}

-- After n accepted steps: what they showed, after which the rest of the steps break what all do; and for each processor
-- its delayed operations.
pub record Follows (o : Object) (steps : List Step) (n : ℕ) (s : State) (delayed : List (List ℕ)) : Type 0 where
  pub run : List Seen
  pub count : length run ≡ n
  pub law : law_of o steps ≡ law_on (drop n steps) run s
  pub keeps : Keeps run s
  pub beside : (p : ℕ) (own : List ℕ) → slice_get delayed p ≡ Some own → own ≡ delayed_in p run
  pub wide : length delayed ≡ length s.processors

-- before the first step

none_there : {A : Type 0} (there : Option A) (own : List ℕ) → option_map (λ (a : A). []) there ≡ Some own → own ≡ []
none_there {A} None own e = absurd (cc)
none_there {A} (Some a) own e = cc

pub follows_first : (o : Object) (steps : List Step) → Follows o steps 0 (opening o) (map (λ (c : Processor). []) (opening o).processors)
follows_first o steps = record {
  run = [];
  count = refl;
  law = refl;
  keeps = keeps_first o;
  beside = λ p own e. none_there (slice_get (opening o).processors p) own (sym (slice_get-map (λ (c : Processor). []) (opening o).processors p) ∙ e);
  wide = length-map (opening o).processors (λ (c : Processor). []);
}

-- an accepted step

drop_here : {A : Type 0} (xs : List A) (n : ℕ) (x : A) → slice_get xs n ≡ Some x → drop n xs ≡ x ∷ drop (n + 1) xs
drop_here [] n x e = absurd (cc)
drop_here (y ∷ xs) zero x e = let same : y ≡ x = cc in rw same refl
drop_here {A} (y ∷ xs) (suc n) x e =
    let same : suc (n + 1) ≡ suc n + 1 = omega (arith) in
    drop_here xs n x e ∙ ap (λ (k : ℕ). x ∷ drop k (y ∷ xs)) same

-- the step at place n is the next, where what it comes to is known
next_law : (steps : List Step) (n : ℕ) (run : List Seen) (s : State) (step : Step) (did : Result (Seen × State) Refusal) → slice_get steps n ≡ Some step → step_of s step ≡ did
    → law_on (drop n steps) run s ≡ law_after run s step did (law_on (drop (n + 1) steps))
next_law steps n run s step did at e =
    ap (λ (l : List Step). law_on l run s) (drop_here steps n step at)
    ∙ ap (λ (r : Result (Seen × State) Refusal). law_after run s step r (law_on (drop (n + 1) steps))) e

same_processors : (s t : State) (step : Step) (seen : Seen) → step_of s step ≡ Ok (seen, t) → length t.processors ≡ length s.processors
same_processors s t step seen e =
    sym (length-map t.processors programs_of) ∙ ap (λ (l : List Programs). length l) (step_sibling s t step seen e).programs ∙ length-map s.processors programs_of

noted_beside : (run : List Seen) (seen : Seen) (old new : List (List ℕ)) → ((p : ℕ) (own : List ℕ) → slice_get old p ≡ Some own → own ≡ delayed_in p run)
    → IsNoted (length run) seen old new → (p : ℕ) (own : List ℕ) → slice_get new p ≡ Some own → own ≡ delayed_in p (run ++ seen ∷ [])
noted_beside run seen old new beside noted p own there =
    let was = get_within old p (omega (arith, slice_get_within new p own there, noted.count)) in
    let now : Some (delayed_next p (length run) was.0 seen) ≡ Some own = sym (noted.each p was.0 was.1) ∙ there in
    let same : own ≡ delayed_next p (length run) was.0 seen = cc in
    same ∙ ap (λ (d : List ℕ). delayed_next p (length run) d seen) (beside p was.0 was.1) ∙ sym (delayed_in_more p run seen)

pub follows_step : (o : Object) (steps : List Step) (n : ℕ) (s t : State) (step : Step) (seen : Seen) (old new : List (List ℕ)) → Follows o steps n s old
    → slice_get steps n ≡ Some step → step_of s step ≡ Ok (seen, t) → IsNoted n seen old new → Follows o steps (n + 1) t new
follows_step o steps n s t step seen old new f at e noted = record {
  run = f.run ++ seen ∷ [];
  count = length-append f.run (seen ∷ []) ∙ ap (λ (k : ℕ). k + 1) f.count;
  law = f.law ∙ next_law steps n f.run s step (Ok (seen, t)) at e;
  keeps = step_keeps f.run s t step seen f.keeps e;
  beside = noted_beside f.run seen old new f.beside (subst (λ (k : ℕ). IsNoted k seen old new) (sym f.count) noted);
  wide = noted.count ∙ f.wide ∙ sym (same_processors s t step seen e);
}

-- what an accepted step shows can be noted

own_there : (o : Object) (steps : List Step) (n : ℕ) (s : State) (delayed : List (List ℕ)) (f : Follows o steps n s delayed) (p : ℕ) (c : Processor)
    → slice_get s.processors p ≡ Some c → slice_get delayed p ≡ Some (delayed_in p f.run)
own_there o steps n s delayed f p c there =
    let was = get_within delayed p (omega (arith, slice_get_within s.processors p c there, f.wide)) in
    was.1 ∙ ap (λ (own : List ℕ). Some own) (f.beside p was.0 was.1)

ran_noted : (run : List Seen) (delayed : List (List ℕ)) (p place : ℕ) (act : Act) (shape : List ℕ) (buffer after : List Entry) (m n : Memory)
    → AreBuffered run p (delayed_in p run) buffer → slice_get delayed p ≡ Some (delayed_in p run)
    → IsShown act (contents_of shape buffer m) (contents_of shape after n) → CanNote delayed (Ran p place act)
ran_noted run delayed p place (Delay entry) shape buffer after m n x own shown = (delayed_in p run, own, omega (arith, shown.room, x.same_length))
ran_noted run delayed p place Local shape buffer after m n x own shown = tt
ran_noted run delayed p place Fence shape buffer after m n x own shown = tt
ran_noted run delayed p place (Read word value) shape buffer after m n x own shown = tt
ran_noted run delayed p place (Locked word value written) shape buffer after m n x own shown = tt
ran_noted run delayed p place (Trap address) shape buffer after m n x own shown = tt

pub can_note : (o : Object) (steps : List Step) (n : ℕ) (s t : State) (delayed : List (List ℕ)) (step : Step) (seen : Seen) → Follows o steps n s delayed
    → step_of s step ≡ Ok (seen, t) → CanNote delayed seen
can_note o steps n s t delayed (Exec p) seen f e =
    let x = exec_only s t p seen e in
    subst (λ (y : Seen). CanNote delayed y) (sym x.shown)
    (ran_noted f.run delayed p x.before.place x.act s.shape x.before.buffer x.after.buffer s.memory t.memory (f.keeps.tracks p x.before x.there)
    (own_there o steps n s delayed f p x.before x.there) (exec_shown s.shape x.before x.after s.memory t.memory x.act x.ran))
can_note o steps n s t delayed (Drain p i) seen f e =
    let x = drain_only s t p i seen e in
    let at = at_split x.before.buffer x.earlier x.later i x.entry x.split.whole x.split.place in
    let within = slice_get_within x.before.buffer i x.entry at in
    subst (λ (y : Seen). CanNote delayed y) (sym x.shown)
    (delayed_in p f.run, own_there o steps n s delayed f p x.before x.there, omega (arith, within, (f.keeps.tracks p x.before x.there).same_length))
can_note o steps n s t delayed (Persist line) seen f e =
    let x = persist_only s t line seen e in
    subst (λ (y : Seen). CanNote delayed y) (sym x.shown) tt
can_note o steps n s t delayed Settle seen f e =
    let x = settle_only s t seen e in
    subst (λ (y : Seen). CanNote delayed y) (sym x.shown) tt
can_note o steps n s t delayed Crash seen f e = subst (λ (y : Seen). CanNote delayed y) (sym (crash_seen s t seen e)) tt

-- what is found

abbrev Answered : Object → List Step → Option Pair → Type 0
Answered o steps found = IsAnswer (loose_run_of steps (opening o)) found

as_found : (o : Object) (steps : List Step) (found : Option Pair) → law_of o steps ≡ found → Answered o steps found
as_found o steps found e = subst (λ (x : Option Pair). Answered o steps x) e (law_answers o steps)

pub answer_end : (o : Object) (steps : List Step) (n : ℕ) (s : State) (delayed : List (List ℕ)) → Follows o steps n s delayed → n ≡ length steps → Answered o steps None
answer_end o steps n s delayed f all =
    let none : drop n steps ≡ [] = ap (λ (k : ℕ). drop k steps) all ∙ drop-length steps in
    as_found o steps None (f.law ∙ ap (λ (l : List Step). law_on l f.run s) none)

-- where the step is refused whatever its order
pub answer_refused : (o : Object) (steps : List Step) (n : ℕ) (s : State) (delayed : List (List ℕ)) (step : Step) (refusal other : Refusal) → Follows o steps n s delayed
    → slice_get steps n ≡ Some step → step_of s step ≡ Err refusal → loose_step_of s step ≡ Err other → Answered o steps None
answer_refused o steps n s delayed step refusal other f at e refused =
    let none : law_of o steps ≡ None =
    f.law
    ∙ next_law steps n f.run s step (Err refusal) at e
    ∙ ap (λ (r : Result (Seen × State) Refusal). pair_if r (pair_by (delayed_after f.run) step refusal (length f.run))) refused in
    as_found o steps None none

-- what is kept beside a run of a processor is what the run says of it
same_look : (o : Object) (steps : List Step) (n : ℕ) (s : State) (delayed : List (List ℕ)) (f : Follows o steps n s delayed) (p i : ℕ) (c : Processor)
    → slice_get s.processors p ≡ Some c → delayed_after f.run p i ≡ delayed_at delayed p i
same_look o steps n s delayed f p i c there =
    sym (ap (option_and_then (λ (own : List ℕ). slice_get own i)) (own_there o steps n s delayed f p c there))

waits_found : (o : Object) (steps : List Step) (n : ℕ) (s : State) (delayed : List (List ℕ)) (f : Follows o steps n s delayed) (p : ℕ) → step_of s (Exec p) ≡ Err BufferNotEmpty
    → pair_by (delayed_after f.run) (Exec p) BufferNotEmpty (length f.run) ≡ pair_by (delayed_at delayed) (Exec p) BufferNotEmpty n
waits_found o steps n s delayed f p e =
    let w = waits_there s p e in
    ap (λ (k : ℕ). pair_by (delayed_after f.run) (Exec p) BufferNotEmpty k) f.count
    ∙ ap (option_map (λ (a : ℕ). record { cpu = p; first = a; second = n; at = n })) (same_look o steps n s delayed f p 0 w.cpu w.there)

held_found : (o : Object) (steps : List Step) (n : ℕ) (s : State) (delayed : List (List ℕ)) (f : Follows o steps n s delayed) (p i holder : ℕ)
    → step_of s (Drain p i) ≡ Err (Held holder)
    → pair_by (delayed_after f.run) (Drain p i) (Held holder) (length f.run) ≡ pair_by (delayed_at delayed) (Drain p i) (Held holder) n
held_found o steps n s delayed f p i holder e =
    let h = held_drain s p i holder e in
    ap (λ (k : ℕ). pair_by (delayed_after f.run) (Drain p i) (Held holder) k) f.count
    ∙ ap (option_and_then (λ (a : ℕ). option_map (λ (b : ℕ). record { cpu = p; first = a; second = b; at = n }) (delayed_after f.run p i))) (same_look o steps n s delayed f p holder h.0 h.2)
    ∙ ap (λ (look : Option ℕ). option_and_then (λ (a : ℕ). option_map (λ (b : ℕ). record { cpu = p; first = a; second = b; at = n }) look) (delayed_at delayed p holder)) (same_look o steps n s delayed f p i h.0 h.2)

pair_found : (o : Object) (steps : List Step) (n : ℕ) (s t : State) (delayed : List (List ℕ)) (f : Follows o steps n s delayed) (step : Step) (refusal : Refusal) (seen : Seen)
    → step_of s step ≡ Err refusal → loose_step_of s step ≡ Ok (seen, t)
    → pair_by (delayed_after f.run) step refusal (length f.run) ≡ pair_by (delayed_at delayed) step refusal n
pair_found o steps n s t delayed f step refusal seen e passed =
    elim (passed_for_order s t step refusal seen e passed) [
      | inl w ↦
          let refused : step_of s (Exec w.0) ≡ Err BufferNotEmpty = ap (λ (y : Step). step_of s y) (sym w.1) ∙ e ∙ ap (λ (r : Refusal). Err r) w.2 in
          rw (w.1, w.2) (waits_found o steps n s delayed f w.0 refused)
      | inr h ↦
          let step_is : step ≡ Drain h.0 h.1 = h.3 in
          let refusal_is : refusal ≡ Held h.2 = h.4 in
          let refused : step_of s (Drain h.0 h.1) ≡ Err (Held h.2) = ap (λ (y : Step). step_of s y) (sym step_is) ∙ e ∙ ap (λ (r : Refusal). Err r) refusal_is in
          rw (step_is, refusal_is) (held_found o steps n s delayed f h.0 h.1 h.2 refused)
    ]

-- where the step is refused for its order alone
pub answer_passed : (o : Object) (steps : List Step) (n : ℕ) (s t : State) (delayed : List (List ℕ)) (step : Step) (refusal : Refusal) (seen : Seen) → Follows o steps n s delayed
    → slice_get steps n ≡ Some step → step_of s step ≡ Err refusal → loose_step_of s step ≡ Ok (seen, t)
    → Answered o steps (pair_by (delayed_at delayed) step refusal n)
answer_passed o steps n s t delayed step refusal seen f at e passed =
    let found : law_of o steps ≡ pair_by (delayed_at delayed) step refusal n =
    f.law
    ∙ next_law steps n f.run s step (Err refusal) at e
    ∙ ap (λ (r : Result (Seen × State) Refusal). pair_if r (pair_by (delayed_after f.run) step refusal (length f.run))) passed
    ∙ pair_found o steps n s t delayed f step refusal seen e passed in
    as_found o steps (pair_by (delayed_at delayed) step refusal n) found

-- what a test tells
pub tested_ok : {A : Type 0} (r : Result (A × State) Refusal) (done : Unit {0}) → tested r ≡ Ok done → (a : A) × (t : State) × (r ≡ Ok (a, t))
tested_ok {A} (Ok made) done e = (made.0, made.1, refl)
tested_ok {A} (Err refusal) done e = absurd (cc)

pub tested_err : {A : Type 0} (r : Result A Refusal) (refusal : Refusal) → tested r ≡ Err refusal → r ≡ Err refusal
tested_err {A} (Ok done) refusal e = absurd (cc)
tested_err {A} (Err found) refusal e = let same : found ≡ refusal = cc in ap (λ (x : Refusal). Err x) same

-- what is written back over a slice of the same length
pub written_back : {A : Type 0} (new old : List A) (len : ℕ) → len ≡ length new → take len (new ++ drop (length new) old) ≡ new
written_back {A} new old len same =
    ap (λ (n : ℕ). take n (new ++ drop (length new) old)) same ∙ take-append_seam new (drop (length new) old)
