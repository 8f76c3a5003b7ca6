-- An accepted step breaks no pair.
use Rattle.std.proofs.Common.{◌≡◌, ℕ, zero, suc, ◌+◌, ◌<◌, Bool, true, false, Option, Some, None, Ok, List, [], ◌∷◌, ◌++◌, length, refl, sym, ◌∙◌, subst, arith}
use Rattle.std.proofs.lemmas.Option.{same_Some}
use Rattle.std.specs.Prelude.{slice_get}
use Rattle.std.specs.List.{list_any}
use Rattle.std.proofs.lemmas.Bool.{or_parts}
use Rattle.outcomes.proofs.ListsByPlace.{slice_get_seam}
use Rattle.order_table.specs.declared.Kind.TheVariants as kinds
use Rattle.order_table.specs.Operations.{Operation, is_one_line, is_kept_after}
use Rattle.lines_layout.specs.Lines.{line_of}
use Rattle.store_buffer.specs.declared.entry.Entry.{Entry}
use Rattle.store_buffer.specs.Buffers.{line_named, is_held_by}
use Rattle.store_buffer.specs.Indexes.{operation_of}
use Rattle.persist_buffer.specs.State.{Memory}
use Rattle.processor.specs.declared.act.Act.{Act}
use Rattle.processor.specs.declared.act.Act.TheVariants.{Local, Fence, Read, Delay, Locked, Trap}
use Rattle.processor.specs.Acts.{IsShown}
use Rattle.processor.proofs.WaitingIsTheTables.{read_passes}
use Rattle.machine.specs.declared.step.Step.{Step}
use Rattle.machine.specs.declared.step.Step.TheVariants.{Exec, Drain, Persist, Settle, Crash}
use Rattle.machine.specs.declared.step.Seen.{Seen}
use Rattle.machine.specs.declared.step.Seen.TheVariants.{Ran, Left, Persisted, Settled, Crashed}
use Rattle.machine.specs.State.{State}
use Rattle.machine.specs.Processors.{contents_of}
use Rattle.machine.specs.Steps.{step_of}
use Rattle.machine.specs.Effects.{delayed_in, effect_by, IsBroken}
use Rattle.machine.proofs.PersistAndSettleStepsSplit.{persist_only, settle_only}
use Rattle.machine.proofs.ProcessorSteps.{exec_only, drain_only}
use Rattle.machine.proofs.ExecShowsAll.{exec_shown}
use Rattle.machine.proofs.DelayedInOneProcessor.{get_before}
use Rattle.machine.proofs.DelayedOperationsAreBuffered.{Keeps, crash_seen}
use Rattle.machine.proofs.BrokenPairs.{IsBrokenNow, IsBrokenThere, broken_now, broken_there, effect_now}

nothing_there : (run : List Seen) (p q first second : ℕ) (act : Act) (delayed : List ℕ) (buffer : List Entry) → IsBrokenNow run p q first second act delayed buffer
    → buffer ≡ [] → ⊥
nothing_there run p q first second act delayed buffer x none =
    let read : slice_get [] x.place ≡ Some x.entry = subst (λ (b : List Entry). slice_get b x.place ≡ Some x.entry) none x.buffered in
    cc

-- an instruction that ran finds every entry that is kept before it gone
ran_in_order : (run : List Seen) (p q first second : ℕ) (act : Act) (delayed shape : List ℕ) (buffer after : List Entry) (m n : Memory)
    → IsShown act (contents_of shape buffer m) (contents_of shape after n) → IsBrokenNow run p q first second act delayed buffer → ⊥
ran_in_order run p q first second Local delayed shape buffer after m n shown x = let bad : false ≡ true = x.immediate in cc
ran_in_order run p q first second (Delay entry) delayed shape buffer after m n shown x = let bad : false ≡ true = x.immediate in cc
ran_in_order run p q first second (Trap address) delayed shape buffer after m n shown x = let bad : false ≡ true = x.immediate in cc
ran_in_order run p q first second Fence delayed shape buffer after m n shown x = nothing_there run p q first second Fence delayed buffer x shown.0
ran_in_order run p q first second (Locked word value None) delayed shape buffer after m n shown x =
    nothing_there run p q first second (Locked word value None) delayed buffer x shown.0
ran_in_order run p q first second (Locked word value (Some new)) delayed shape buffer after m n shown x =
    nothing_there run p q first second (Locked word value (Some new)) delayed buffer x shown.0
ran_in_order run p q first second (Read word value) delayed shape buffer after m n shown x =
    let read : Operation = (kinds.Read, Some (line_of word)) in
    let same : x.later ≡ read = sym (same_Some read x.later x.shown) in
    let kept : is_kept_after read (operation_of x.entry) ≡ true = subst (λ (o : Operation). is_kept_after o (operation_of x.entry) ≡ true) same x.kept in
    let bad : false ≡ true = sym (read_passes x.entry (is_one_line (line_named x.entry) (Some (line_of word)))) ∙ kept in
    cc

none_of : {A : Type 0} (test : A → Bool) (xs : List A) (k : ℕ) (x : A) → list_any test xs ≡ false → slice_get xs k ≡ Some x → test x ≡ false
none_of {A} test [] k x none e = absurd (cc)
none_of {A} test (y ∷ xs) zero x none e =
    let same : y ≡ x = cc in
    subst (λ (z : A). test z ≡ false) same (or_parts (test y) (list_any test xs) none).0
none_of {A} test (y ∷ xs) (suc k) x none e = none_of test xs k x (or_parts (test y) (list_any test xs) none).1 e

-- an entry that left was held by none
left_in_order : (run : List Seen) (p q first second i : ℕ) (leaving : Entry) (delayed : List ℕ) (buffer earlier later : List Entry)
    → buffer ≡ earlier ++ leaving ∷ later → length earlier ≡ i → list_any (is_held_by leaving) earlier ≡ false
    → IsBrokenThere run p q first second i leaving delayed buffer → ⊥
left_in_order run p q first second i leaving delayed buffer earlier later whole at free x =
    let within : x.place < length earlier = omega (arith, x.before, at) in
    let read : slice_get (earlier ++ leaving ∷ later) x.place ≡ Some x.entry = subst (λ (b : List Entry). slice_get b x.place ≡ Some x.entry) whole x.buffered in
    let not : is_held_by leaving x.entry ≡ false =
    none_of (is_held_by leaving) earlier x.place x.entry free (sym (get_before earlier (leaving ∷ later) x.place within) ∙ read) in
    let bad : false ≡ true = sym not ∙ x.holds in
    cc

pub at_split : (buffer earlier later : List Entry) (i : ℕ) (entry : Entry) → buffer ≡ earlier ++ entry ∷ later → length earlier ≡ i → slice_get buffer i ≡ Some entry
at_split buffer earlier later i entry whole at = rw (whole, ← at) (slice_get_seam earlier later entry)

none_shown : (run later : List Seen) (seen : Seen) (p first second : ℕ) → effect_by run seen ≡ None → IsBroken (run ++ seen ∷ later) p first second (length run) → ⊥
none_shown run later seen p first second none x =
    let bad : ◌≡◌ {A = Option ℕ} None (Some second) = sym none ∙ effect_now run later seen p first second x in
    cc

as_shown : (run later : List Seen) (p first second : ℕ) (seen shown : Seen) → seen ≡ shown → IsBroken (run ++ seen ∷ later) p first second (length run)
    → IsBroken (run ++ shown ∷ later) p first second (length run)
as_shown run later p first second seen shown e x = subst (λ (y : Seen). IsBroken (run ++ y ∷ later) p first second (length run)) e x

pub step_in_order : (run later : List Seen) (s t : State) (step : Step) (seen : Seen) (p first second : ℕ) → Keeps run s → step_of s step ≡ Ok (seen, t)
    → IsBroken (run ++ seen ∷ later) p first second (length run) → ⊥
step_in_order run later s t (Exec q) seen p first second k e x =
    let y = exec_only s t q seen e in
    ran_in_order run p q first second y.act (delayed_in q run) s.shape y.before.buffer y.after.buffer s.memory t.memory
    (exec_shown s.shape y.before y.after s.memory t.memory y.act y.ran)
    (broken_now run later q y.before.place y.act p first second y.before.buffer (k.tracks q y.before y.there)
    (as_shown run later p first second seen (Ran q y.before.place y.act) y.shown x))
step_in_order run later s t (Drain q i) seen p first second k e x =
    let y = drain_only s t q i seen e in
    let at = at_split y.before.buffer y.earlier y.later i y.entry y.split.whole y.split.place in
    left_in_order run p q first second i y.entry (delayed_in q run) y.before.buffer y.earlier y.later y.split.whole y.split.place y.split.free
    (broken_there run later q i y.entry p first second y.before.buffer (k.tracks q y.before y.there) at
    (as_shown run later p first second seen (Left q i y.entry) y.shown x))
step_in_order run later s t (Persist line) seen p first second k e x =
    let y = persist_only s t line seen e in
    none_shown run later (Persisted y.word y.value) p first second refl (as_shown run later p first second seen (Persisted y.word y.value) y.shown x)
step_in_order run later s t Settle seen p first second k e x =
    let y = settle_only s t seen e in
    none_shown run later (Settled y.line) p first second refl (as_shown run later p first second seen (Settled y.line) y.shown x)
step_in_order run later s t Crash seen p first second k e x =
    none_shown run later (Crashed (s.crashes + 1)) p first second refl (as_shown run later p first second seen (Crashed (s.crashes + 1)) (crash_seen s t seen e) x)
