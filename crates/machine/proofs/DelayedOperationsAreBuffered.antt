-- After any accepted step the delayed operations of each processor are its store buffer's entries.
use Rattle.std.proofs.Common.{◌≡◌, ◌≢◌, ℕ, ◌+◌, ◌<◌, ◌≤◌, true, false, Option, Some, None, Result, Ok, Err, List, [], ◌∷◌, ◌++◌, length, take, remove, option_map, refl, sym, ◌∙◌, ap, subst, inl, inr, arith}
use Rattle.std.specs.Prelude.{◌⊎◌, slice_get, nat_le, ◌==◌}
use Rattle.std.proofs.lemmas.Bool.{cases_Bool, cases_eq}
use Rattle.std.proofs.lemmas.Bool.Decides.{nat_tests}
use Rattle.std.proofs.lemmas.Option.{slice_get_within, slice_get-map, same_Some}
use Rattle.std.proofs.lemmas.List.{length-append}
use Rattle.std.proofs.Math.Seq.{take-append_seam}
use Rattle.isa.specs.declared.programs.Programs.{Programs}
use Rattle.isa.specs.Objects.{Object}
use Rattle.outcomes.proofs.PartsOfOutcomes.{answer_of}
use Rattle.outcomes.proofs.ListsByPlace.{drop_past_seam}
use Rattle.store_buffer.specs.declared.entry.Entry.{Entry}
use Rattle.persist_buffer.specs.State.{Memory}
use Rattle.processor.specs.declared.act.Act.{Act}
use Rattle.processor.specs.declared.act.Act.TheVariants.{Local, Fence, Read, Delay, Locked, Trap}
use Rattle.processor.specs.Acts.{IsShown}
use Rattle.processor.specs.Contents.{Contents}
use Rattle.machine.specs.declared.step.Step.{Step}
use Rattle.machine.specs.declared.step.Step.TheVariants.{Exec, Drain, Persist, Settle, Crash}
use Rattle.machine.specs.declared.step.Seen.{Seen}
use Rattle.machine.specs.declared.step.Seen.TheVariants.{Ran, Left, Persisted, Settled, Crashed}
use Rattle.machine.specs.declared.refusal.Refusal.{Refusal}
use Rattle.machine.specs.declared.refusal.Refusal.TheVariants.{Spent}
use Rattle.machine.specs.Limits.{max_turns}
use Rattle.machine.specs.Objects.{opening_processor, opening}
use Rattle.machine.specs.State.{Processor, State}
use Rattle.machine.specs.Processors.{contents_of}
use Rattle.machine.specs.Steps.{crash_of, step_of}
use Rattle.machine.specs.StepRelations.{IsProcessorTurn}
use Rattle.machine.specs.Effects.{delayed_next, delayed_in, effect_by, effect_at}
use Rattle.machine.proofs.CrashesEmptyBuffers.{nothing_buffered}
use Rattle.machine.proofs.PersistAndSettleStepsSplit.{persist_only, settle_only}
use Rattle.machine.proofs.ProcessorSteps.{exec_only, drain_only, processor_is_now, other_processor_stays}
use Rattle.machine.proofs.ExecShowsAll.{exec_shown}
use Rattle.machine.specs.Buffered.{AreBuffered}
use Rattle.machine.proofs.DelayedInOneProcessor.{ArePast, delayed_in_more, effect_before, effect_here, effect_within, entry_of, below, tracks_beside, tracks_delay, tracks_left, tracks_crash, tracks_none}

pub record Keeps (run : List Seen) (s : State) : Type 0 where
  pub tracks : (q : ℕ) (c : Processor) → slice_get s.processors q ≡ Some c → AreBuffered run q (delayed_in q run) c.buffer
  pub past : ArePast run

same_number : (p : ℕ) → (p == p) ≡ true
same_number p = grind (arith, nat_tests)

other_number : (p q : ℕ) → q ≢ p → (p == q) ≡ false
other_number p q apart = grind (arith, nat_tests, apart)

-- the effects of one step more

last_place : (run : List Seen) (seen : Seen) (k : ℕ) → k < length (run ++ seen ∷ []) → (k < length run) ⊎ (k ≡ length run)
last_place run seen k within =
    elim (cases_eq k (length run)) [
      | inl same ↦ inr same
      | inr other ↦ inl (omega (arith, within, length-append run (seen ∷ []), other))
    ]

past_more : (run : List Seen) (seen : Seen) → ArePast run → ((a : ℕ) → effect_by run seen ≡ Some a → a ≤ length run) → ArePast (run ++ seen ∷ [])
past_more run seen past last k a e =
    let long : length (run ++ seen ∷ []) ≡ length run + 1 = length-append run (seen ∷ []) in
    elim (last_place run seen k (effect_within (run ++ seen ∷ []) k a e)) [
      | inl within ↦ omega (arith, past k a (sym (effect_before run (seen ∷ []) k within) ∙ e), long)
      | inr here ↦
          let read : effect_at (run ++ seen ∷ []) (length run) ≡ Some a = subst (λ (m : ℕ). effect_at (run ++ seen ∷ []) m ≡ Some a) here e in
          omega (arith, last a (sym (effect_here run [] seen) ∙ read), long)
    ]

ran_effect : (run : List Seen) (p place : ℕ) (act : Act) (a : ℕ) → effect_by run (Ran p place act) ≡ Some a → a ≡ length run
ran_effect run p place Local a e = absurd (cc)
ran_effect run p place (Trap address) a e = absurd (cc)
ran_effect run p place Fence a e = cc
ran_effect run p place (Read word value) a e = cc
ran_effect run p place (Delay entry) a e = absurd (cc)
ran_effect run p place (Locked word value written) a e = cc

-- an instruction

not_yet : (run : List Seen) (q p place : ℕ) (act : Act) (delayed : List ℕ) (buffer : List Entry) → AreBuffered run q delayed buffer
    → (j a : ℕ) → slice_get delayed j ≡ Some a → effect_by run (Ran p place act) ≢ Some a
not_yet run q p place act delayed buffer x j a there e = absurd (omega (arith, below run q delayed buffer x j a there, ran_effect run p place act a e))

ran_beside : (run : List Seen) (q p place : ℕ) (act : Act) (delayed : List ℕ) (buffer : List Entry) → AreBuffered run q delayed buffer
    → ((at : ℕ) (entry : Entry) → Ran p place act ≢ Ran q at (Delay entry)) → AreBuffered (run ++ Ran p place act ∷ []) q delayed buffer
ran_beside run q p place act delayed buffer x no_delay =
    tracks_beside run (Ran p place act) q delayed buffer x (λ count e. cc) no_delay (not_yet run q p place act delayed buffer x)

ran_other : (run : List Seen) (q p place : ℕ) (act : Act) (delayed : List ℕ) (buffer : List Entry) → AreBuffered run q delayed buffer → q ≢ p
    → AreBuffered (run ++ Ran p place act ∷ []) q (delayed_next q (length run) delayed (Ran p place act)) buffer
ran_other run q p place (Delay entry) delayed buffer x apart =
    rw (other_number p q apart) (ran_beside run q p place (Delay entry) delayed buffer x (λ at other e. let same : q ≡ p = cc in apart same))
ran_other run q p place Local delayed buffer x apart = ran_beside run q p place Local delayed buffer x (λ at other e. cc)
ran_other run q p place (Trap address) delayed buffer x apart = ran_beside run q p place (Trap address) delayed buffer x (λ at other e. cc)
ran_other run q p place Fence delayed buffer x apart = ran_beside run q p place Fence delayed buffer x (λ at other e. cc)
ran_other run q p place (Read word value) delayed buffer x apart = ran_beside run q p place (Read word value) delayed buffer x (λ at other e. cc)
ran_other run q p place (Locked word value written) delayed buffer x apart = ran_beside run q p place (Locked word value written) delayed buffer x (λ at other e. cc)

kept_by : (run : List Seen) (p place : ℕ) (act : Act) (delayed : List ℕ) (buffer after : List Entry) → AreBuffered run p delayed buffer
    → ((at : ℕ) (entry : Entry) → Ran p place act ≢ Ran p at (Delay entry)) → after ≡ buffer → AreBuffered (run ++ Ran p place act ∷ []) p delayed after
kept_by run p place act delayed buffer after x no_delay same =
    subst (λ (b : List Entry). AreBuffered (run ++ Ran p place act ∷ []) p delayed b) (sym same) (ran_beside run p p place act delayed buffer x no_delay)

ran_it : (run : List Seen) (p place : ℕ) (act : Act) (delayed shape : List ℕ) (buffer after : List Entry) (m n : Memory) → AreBuffered run p delayed buffer
    → ArePast run → IsShown act (contents_of shape buffer m) (contents_of shape after n)
    → AreBuffered (run ++ Ran p place act ∷ []) p (delayed_next p (length run) delayed (Ran p place act)) after
ran_it run p place (Delay entry) delayed shape buffer after m n x past shown =
    rw (same_number p) (subst (λ (b : List Entry). AreBuffered (run ++ Ran p place (Delay entry) ∷ []) p (delayed ++ length run ∷ []) b) (sym shown.buffer)
    (tracks_delay run p place entry delayed buffer x past))
ran_it run p place Local delayed shape buffer after m n x past shown =
    kept_by run p place Local delayed buffer after x (λ at other e. cc) (ap (λ (s : Contents). s.buffer) shown)
ran_it run p place (Trap address) delayed shape buffer after m n x past shown =
    kept_by run p place (Trap address) delayed buffer after x (λ at other e. cc) (ap (λ (s : Contents). s.buffer) shown.1)
ran_it run p place Fence delayed shape buffer after m n x past shown =
    kept_by run p place Fence delayed buffer after x (λ at other e. cc) (ap (λ (s : Contents). s.buffer) shown.1)
ran_it run p place (Read word value) delayed shape buffer after m n x past shown =
    kept_by run p place (Read word value) delayed buffer after x (λ at other e. cc) (ap (λ (s : Contents). s.buffer) shown.1)
ran_it run p place (Locked word value (Some new)) delayed shape buffer after m n x past shown =
    kept_by run p place (Locked word value (Some new)) delayed buffer after x (λ at other e. cc) shown.2.buffer
ran_it run p place (Locked word value None) delayed shape buffer after m n x past shown =
    kept_by run p place (Locked word value None) delayed buffer after x (λ at other e. cc) (ap (λ (s : Contents). s.buffer) shown.2)

-- an entry that leaves

-- what one processor has delayed, no other has
pub owner : (run : List Seen) (p q : ℕ) (one two : List ℕ) (b c : List Entry) → AreBuffered run p one b → AreBuffered run q two c → (i j a : ℕ)
    → slice_get one i ≡ Some a → slice_get two j ≡ Some a → q ≡ p
owner run p q one two b c x y i j a here there =
    let e = entry_of run p one b x i a here in
    let f = entry_of run q two c y j a there in
    let d = x.entries i a e.0 here e.1 in
    let g = y.entries j a f.0 there f.1 in
    let same : ◌≡◌ {A = Option Seen} (Some (Ran p d.0 (Delay e.0))) (Some (Ran q g.0 (Delay f.0))) = sym d.1 ∙ g.1 in
    cc

left_other : (run : List Seen) (q p i : ℕ) (entry : Entry) (b c : List Entry) → AreBuffered run p (delayed_in p run) c
    → AreBuffered run q (delayed_in q run) b → q ≢ p
    → AreBuffered (run ++ Left p i entry ∷ []) q (delayed_next q (length run) (delayed_in q run) (Left p i entry)) b
left_other run q p i entry b c y x apart =
    rw (other_number p q apart) (tracks_beside run (Left p i entry) q (delayed_in q run) b x (λ count e. cc) (λ place other e. cc)
    (λ j a there e. apart (owner run p q (delayed_in p run) (delayed_in q run) c b y x i j a e there)))

left_it : (run : List Seen) (p i : ℕ) (entry : Entry) (buffer after earlier later : List Entry) → AreBuffered run p (delayed_in p run) buffer
    → buffer ≡ earlier ++ entry ∷ later → length earlier ≡ i → after ≡ earlier ++ later
    → AreBuffered (run ++ Left p i entry ∷ []) p (delayed_next p (length run) (delayed_in p run) (Left p i entry)) after
left_it run p i entry buffer after earlier later x whole at rest =
    let within : i < length buffer = omega (arith, at, ap (λ (b : List Entry). length b) whole, length-append earlier (entry ∷ later)) in
    let front : take i buffer ≡ earlier = rw (whole, ← at) (take-append_seam earlier (entry ∷ later)) in
    let left : remove buffer i ≡ after = rw (front, whole, ← at, drop_past_seam earlier later entry) (sym rest) in
    rw (same_number p) (subst (λ (b : List Entry). AreBuffered (run ++ Left p i entry ∷ []) p (remove (delayed_in p run) i) b) left
    (tracks_left run p i entry (delayed_in p run) buffer x refl within))

-- all processors

after_step : (run : List Seen) (seen : Seen) (q : ℕ) (buffer : List Entry) → AreBuffered (run ++ seen ∷ []) q (delayed_next q (length run) (delayed_in q run) seen) buffer
    → AreBuffered (run ++ seen ∷ []) q (delayed_in q (run ++ seen ∷ [])) buffer
after_step run seen q buffer x = subst (λ (d : List ℕ). AreBuffered (run ++ seen ∷ []) q d buffer) (sym (delayed_in_more q run seen)) x

-- one processor makes the step
one_keeps : (run : List Seen) (s t : State) (p : ℕ) (before now : Processor) (seen : Seen) → Keeps run s → slice_get s.processors p ≡ Some before
    → IsProcessorTurn p now s t
    → AreBuffered (run ++ seen ∷ []) p (delayed_next p (length run) (delayed_in p run) seen) now.buffer
    → ((q : ℕ) (c : Processor) → q ≢ p → slice_get s.processors q ≡ Some c → AreBuffered (run ++ seen ∷ []) q (delayed_next q (length run) (delayed_in q run) seen) c.buffer)
    → ((a : ℕ) → effect_by run seen ≡ Some a → a ≤ length run) → Keeps (run ++ seen ∷ []) t
one_keeps run s t p before now seen k there turn it others last = record {
  tracks = λ q c at.
      elim (cases_eq q p) [
        | inl here ↦
            let is_now = processor_is_now s t p now turn (slice_get_within s.processors p before there) in
            let read : slice_get t.processors p ≡ Some c = subst (λ (n : ℕ). slice_get t.processors n ≡ Some c) here at in
            let same : now ≡ c = same_Some now c (sym is_now ∙ read) in
            let done = after_step run seen p now.buffer it in
            subst (λ (n : ℕ). AreBuffered (run ++ seen ∷ []) n (delayed_in n (run ++ seen ∷ [])) c.buffer) (sym here)
            (subst (λ (x : Processor). AreBuffered (run ++ seen ∷ []) p (delayed_in p (run ++ seen ∷ [])) x.buffer) same done)
        | inr other ↦ after_step run seen q c.buffer (others q c other (sym (other_processor_stays s t p now turn q other) ∙ at))
      ];
  past = past_more run seen k.past last;
}

-- the memory alone makes the step
memory_keeps : (run : List Seen) (s t : State) (seen : Seen) → Keeps run s → t.processors ≡ s.processors
    → ((q : ℕ) → delayed_next q (length run) (delayed_in q run) seen ≡ delayed_in q run)
    → ((count : ℕ) → seen ≢ Crashed count) → ((q place : ℕ) (entry : Entry) → seen ≢ Ran q place (Delay entry))
    → effect_by run seen ≡ None → Keeps (run ++ seen ∷ []) t
memory_keeps run s t seen k same stays no_crash no_delay none =
    let never : (a : ℕ) → effect_by run seen ≢ Some a = λ a e. let bad : ◌≡◌ {A = Option ℕ} None (Some a) = sym none ∙ e in cc in
    record {
      tracks = λ q c at.
          let x = k.tracks q c (subst (λ (cpus : List Processor). slice_get cpus q ≡ Some c) same at) in
          after_step run seen q c.buffer (subst (λ (d : List ℕ). AreBuffered (run ++ seen ∷ []) q d c.buffer) (sym (stays q))
          (tracks_beside run seen q (delayed_in q run) c.buffer x no_crash (no_delay q) (λ j a there. never a)));
      past = past_more run seen k.past (λ a e. absurd (never a e));
    }

pub crash_seen : (s t : State) (seen : Seen) → step_of s Crash ≡ Ok (seen, t) → seen ≡ Crashed (s.crashes + 1)
crash_seen s t seen e =
    elim (cases_Bool (nat_le max_turns s.turns)) [
      | inl spent ↦ let refused : ◌≡◌ {A = Result (Seen × State) Refusal} (Err Spent) (Ok (seen, t)) = rw spent at e in absurd (cc)
      | inr goes ↦ let accepted : ◌≡◌ {A = Result (Seen × State) Refusal} (Ok (Crashed (s.crashes + 1), record (crash_of s) { turns = s.turns + 1 })) (Ok (seen, t)) = rw goes at e in (answer_of _ _ _ _ accepted).0
    ]

by_seen : (run : List Seen) (t : State) (seen shown : Seen) → seen ≡ shown → Keeps (run ++ shown ∷ []) t → Keeps (run ++ seen ∷ []) t
by_seen run t seen shown e k = subst (λ (x : Seen). Keeps (run ++ x ∷ []) t) (sym e) k

pub step_keeps : (run : List Seen) (s t : State) (step : Step) (seen : Seen) → Keeps run s → step_of s step ≡ Ok (seen, t) → Keeps (run ++ seen ∷ []) t
step_keeps run s t (Exec p) seen k e =
    let x = exec_only s t p seen e in
    let shown = exec_shown s.shape x.before x.after s.memory t.memory x.act x.ran in
    by_seen run t seen (Ran p x.before.place x.act) x.shown
    (one_keeps run s t p x.before x.after (Ran p x.before.place x.act) k x.there x.alone
    (ran_it run p x.before.place x.act (delayed_in p run) s.shape x.before.buffer x.after.buffer s.memory t.memory (k.tracks p x.before x.there) k.past shown)
    (λ q c other at. ran_other run q p x.before.place x.act (delayed_in q run) c.buffer (k.tracks q c at) other)
    (λ a effect. omega (arith, ran_effect run p x.before.place x.act a effect)))
step_keeps run s t (Drain p i) seen k e =
    let x = drain_only s t p i seen e in
    let it = k.tracks p x.before x.there in
    by_seen run t seen (Left p i x.entry) x.shown
    (one_keeps run s t p x.before x.after (Left p i x.entry) k x.there x.alone
    (left_it run p i x.entry x.before.buffer x.after.buffer x.earlier x.later it x.split.whole x.split.place (ap (λ (c : Processor). c.buffer) x.split.rest))
    (λ q c other at. left_other run q p i x.entry c.buffer x.before.buffer it (k.tracks q c at) other)
    (λ a effect. omega (arith, below run p (delayed_in p run) x.before.buffer it i a effect)))
step_keeps run s t (Persist line) seen k e =
    let x = persist_only s t line seen e in
    by_seen run t seen (Persisted x.word x.value) x.shown
    (memory_keeps run s t (Persisted x.word x.value) k x.alone.processors (λ q. refl) (λ count e. cc) (λ q place entry e. cc) refl)
step_keeps run s t Settle seen k e =
    let x = settle_only s t seen e in
    by_seen run t seen (Settled x.line) x.shown
    (memory_keeps run s t (Settled x.line) k x.alone.processors (λ q. refl) (λ count e. cc) (λ q place entry e. cc) refl)
step_keeps run s t Crash seen k e =
    by_seen run t seen (Crashed (s.crashes + 1)) (crash_seen s t seen e)
    (record {
      tracks = λ q c at.
          after_step run (Crashed (s.crashes + 1)) q c.buffer
          (subst (λ (b : List Entry). AreBuffered (run ++ Crashed (s.crashes + 1) ∷ []) q [] b) (sym (nothing_buffered s t seen q c e at)) (tracks_crash run q (s.crashes + 1)));
      past = past_more run (Crashed (s.crashes + 1)) k.past (λ a effect. absurd (cc));
    })

-- before the first step

opened_empty : (there : Option Programs) (c : Processor) → option_map opening_processor there ≡ Some c → c.buffer ≡ []
opened_empty None c e = absurd (cc)
opened_empty (Some programs) c e =
    let same : c ≡ opening_processor programs = cc in
    ap (λ (x : Processor). x.buffer) same

pub keeps_first : (o : Object) → Keeps [] (opening o)
keeps_first o = record {
  tracks = λ q c there.
      let empty = opened_empty (slice_get o.processors q) c (sym (slice_get-map opening_processor o.processors q) ∙ there) in
      subst (λ (b : List Entry). AreBuffered [] q [] b) (sym empty) (tracks_none q);
  past = λ k a e. absurd (cc);
}
