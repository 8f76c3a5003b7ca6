-- What a step breaks: the second operation takes effect there, and the first is delayed.
use Rattle.std.proofs.Common.{◌≡◌, ◌≢◌, ℕ, ◌<◌, ◌≤◌, true, Option, Some, None, List, ◌∷◌, ◌++◌, length, take, refl, sym, ◌∙◌, ap, subst, inl, inr, arith}
use Rattle.std.specs.Prelude.{slice_get}
use Rattle.std.proofs.lemmas.Bool.{cases_eq}
use Rattle.std.proofs.lemmas.Option.{slice_get_within, same_Some}
use Rattle.outcomes.proofs.ListsByPlace.{place_of, slice_get_seam}
use Rattle.order_table.specs.Order.{is_kept}
use Rattle.order_table.specs.Operations as operations
use Rattle.order_table.specs.Operations.{Operation, is_kept_after}
use Rattle.store_buffer.specs.declared.entry.Entry.{Entry}
use Rattle.store_buffer.specs.Buffers.{kind_of, line_named, is_one_line, is_held_by}
use Rattle.store_buffer.specs.Indexes.{operation_of}
use Rattle.processor.specs.declared.act.Act.{Act}
use Rattle.processor.specs.declared.act.Act.TheVariants.{Local, Fence, Read, Delay, Locked, Trap}
use Rattle.machine.specs.declared.step.Seen.{Seen}
use Rattle.machine.specs.declared.step.Seen.TheVariants.{Ran, Left, Crashed}
use Rattle.machine.specs.Effects.{operation_shown, is_immediate, delayed_in, effect_by, effect_at, IsBroken}
use Rattle.machine.specs.Buffered.{AreBuffered, DelaysAt, NoEffect, NoCrashAfter}
use Rattle.machine.proofs.DelayedInOneProcessor.{place, get_before, effect_before, effect_here, effect_within, entry_of, below}

-- the table's test of the operations that two entries delay is that of the entries
same_line : (a b : Option ℕ) → operations.is_one_line a b ≡ is_one_line a b
same_line None None = refl
same_line None (Some b) = refl
same_line (Some a) None = refl
same_line (Some a) (Some b) = refl

pub kept_is_held : (later earlier : Entry) → is_kept_after (operation_of later) (operation_of earlier) ≡ is_held_by later earlier
kept_is_held later earlier = ap (is_kept (kind_of earlier) (kind_of later)) (same_line (line_named earlier) (line_named later))

-- an operation that takes effect where it is executed
immediate_effect : (run : List Seen) (p at k : ℕ) (act : Act) → slice_get run k ≡ Some (Ran p at act) → is_immediate act ≡ true → effect_at run k ≡ Some k
immediate_effect run p at k act there now =
    let here : length (take k run) ≡ k = place_of run k (Ran p at act) there in
    rw (there, now, here) refl

-- an executed operation without effect has been delayed
abbrev IsDelayed : List Seen → ℕ → ℕ → Operation → Type 0
IsDelayed run p n operation = (entry : Entry) × DelaysAt run p n entry × (operation ≡ operation_of entry)

delayed_else : (run : List Seen) (p n at : ℕ) (act : Act) (operation : Operation) → slice_get run n ≡ Some (Ran p at act) → operation_shown act ≡ Some operation
    → effect_at run n ≢ Some n → IsDelayed run p n operation
delayed_else run p n at (Delay entry) operation there shown none = (entry, (at, there), sym (same_Some (operation_of entry) operation shown))
delayed_else run p n at Local operation there shown none = absurd (cc)
delayed_else run p n at (Trap address) operation there shown none = absurd (cc)
delayed_else run p n at Fence operation there shown none = absurd (none (immediate_effect run p at n Fence there refl))
delayed_else run p n at (Read word value) operation there shown none = absurd (none (immediate_effect run p at n (Read word value) there refl))
delayed_else run p n at (Locked word value written) operation there shown none = absurd (none (immediate_effect run p at n (Locked word value written) there refl))

-- The first operation of a pair that is broken by the step after a run: it is delayed.
pub record IsWaiting (run : List Seen) (p first : ℕ) (earlier : Operation) : Type 0 where
  pub entry : Entry
  pub delays : DelaysAt run p first entry
  pub is : earlier ≡ operation_of entry
  pub no_effect : NoEffect run first

waiting : (run later : List Seen) (seen : Seen) (p first second : ℕ) (x : IsBroken (run ++ seen ∷ later) p first second (length run)) → second ≤ length run
    → IsWaiting run p first x.earlier
waiting run later seen p first second x reached =
    let there = x.executed in
    let within : first < length run = omega (arith, x.in_order, reached) in
    let old = sym (get_before run (seen ∷ later) first within) ∙ there.2 in
    let none : effect_at run first ≢ Some first = λ e. x.not_before first (omega (arith, within)) (effect_before run (seen ∷ later) first within ∙ e) in
    let d = delayed_else run p first there.0 there.1 x.earlier old there.3 none in
    record {
      entry = d.0;
      delays = d.1;
      is = d.2;
      no_effect = λ k e.
          let before = effect_within run k first e in
          x.not_before k (omega (arith, before)) (effect_before run (seen ∷ later) k before ∙ e);
    }

no_crash_first : (run later : List Seen) (seen : Seen) (p first second : ℕ) (x : IsBroken (run ++ seen ∷ later) p first second (length run))
    → ((k count : ℕ) → second ≤ k → slice_get run k ≢ Some (Crashed count)) → NoCrashAfter run first
no_crash_first run later seen p first second x none k count after e =
    elim (place k second) [
      | inl before ↦ x.no_crash k count after before (get_before run (seen ∷ later) k (slice_get_within run k (Crashed count) e) ∙ e)
      | inr rest ↦ elim rest [
        | inl here ↦ none k count (omega (arith, here)) e
        | inr past ↦ none k count (omega (arith, past)) e
      ]
    ]

pub effect_now : (run later : List Seen) (seen : Seen) (p first second : ℕ) → IsBroken (run ++ seen ∷ later) p first second (length run) → effect_by run seen ≡ Some second
effect_now run later seen p first second x = sym (effect_here run later seen) ∙ x.effect

-- A pair that is broken by an instruction: it is the second operation, and the first is delayed with this entry.
pub record IsBrokenNow (run : List Seen) (p q first second : ℕ) (act : Act) (delayed : List ℕ) (buffer : List Entry) : Type 0 where
  pub cpu : p ≡ q
  pub now : second ≡ length run
  pub immediate : is_immediate act ≡ true
  pub later : Operation
  pub shown : operation_shown act ≡ Some later
  pub place : ℕ
  pub entry : Entry
  pub delayed_there : slice_get delayed place ≡ Some first
  pub buffered : slice_get buffer place ≡ Some entry
  pub kept : is_kept_after later (operation_of entry) ≡ true

same_delays : (run : List Seen) (q n : ℕ) (a b : Entry) → DelaysAt run q n a → DelaysAt run q n b → a ≡ b
same_delays run q n a b x y =
    let same : ◌≡◌ {A = Option Seen} (Some (Ran q x.0 (Delay a))) (Some (Ran q y.0 (Delay b))) = sym x.1 ∙ y.1 in
    cc

same_ran : (p q at place : ℕ) (act other : Act) → ◌≡◌ {A = Option Seen} (Some (Ran p at act)) (Some (Ran q place other)) → (p ≡ q) × (act ≡ other)
same_ran p q at place act other e = (cc, cc)

-- the entry that stands where an operation is delayed
delayed_entry : (run : List Seen) (q : ℕ) (delayed : List ℕ) (buffer : List Entry) → AreBuffered run q delayed buffer → (n : ℕ) (entry : Entry) → DelaysAt run q n entry
    → NoCrashAfter run n → NoEffect run n → (j : ℕ) × (slice_get delayed j ≡ Some n) × (slice_get buffer j ≡ Some entry)
delayed_entry run q delayed buffer x n entry d safe none =
    let found = x.whole n entry d safe none in
    let e = entry_of run q delayed buffer x found.0 n found.1 in
    let same = same_delays run q n e.0 entry (x.entries found.0 n e.0 found.1 e.1) d in
    (found.0, found.1, e.1 ∙ ap (λ (y : Entry). Some y) same)

ran_now : (run : List Seen) (q at : ℕ) (act : Act) (second : ℕ) → effect_by run (Ran q at act) ≡ Some second → second ≡ length run
ran_now run q at Local second e = absurd (cc)
ran_now run q at (Trap address) second e = absurd (cc)
ran_now run q at Fence second e = cc
ran_now run q at (Read word value) second e = cc
ran_now run q at (Delay entry) second e = absurd (cc)
ran_now run q at (Locked word value written) second e = cc

immediate_by : (run : List Seen) (q at : ℕ) (act : Act) (second : ℕ) → effect_by run (Ran q at act) ≡ Some second → is_immediate act ≡ true
immediate_by run q at Local second e = absurd (cc)
immediate_by run q at (Trap address) second e = absurd (cc)
immediate_by run q at Fence second e = refl
immediate_by run q at (Read word value) second e = refl
immediate_by run q at (Delay entry) second e = absurd (cc)
immediate_by run q at (Locked word value written) second e = refl

pub broken_now : (run later : List Seen) (q at : ℕ) (act : Act) (p first second : ℕ) (buffer : List Entry) → AreBuffered run q (delayed_in q run) buffer
    → IsBroken (run ++ Ran q at act ∷ later) p first second (length run) → IsBrokenNow run p q first second act (delayed_in q run) buffer
broken_now run later q at act p first second buffer tracks x =
    let seen : Seen = Ran q at act in
    let now = ran_now run q at act second (effect_now run later seen p first second x) in
    let w = waiting run later seen p first second x (omega (arith, now)) in
    let there = x.executed_later in
    let read : slice_get (run ++ seen ∷ later) (length run) ≡ Some (Ran p there.0 there.1) =
    subst (λ (n : ℕ). slice_get (run ++ seen ∷ later) n ≡ Some (Ran p there.0 there.1)) now there.2 in
    let same = same_ran p q there.0 at there.1 act (sym read ∙ slice_get_seam run later seen) in
    let safe = no_crash_first run later seen p first second x (λ k count past e. absurd (omega (arith, past, now, slice_get_within run k (Crashed count) e))) in
    let d : DelaysAt run q first w.entry = subst (λ (n : ℕ). DelaysAt run n first w.entry) same.0 w.delays in
    let found = delayed_entry run q (delayed_in q run) buffer tracks first w.entry d safe w.no_effect in
    record {
      cpu = same.0;
      now = now;
      immediate = immediate_by run q at act second (effect_now run later seen p first second x);
      later = x.later;
      shown = subst (λ (a : Act). operation_shown a ≡ Some x.later) same.1 there.3;
      place = found.0;
      entry = w.entry;
      delayed_there = found.1;
      buffered = found.2;
      kept = subst (λ (o : Operation). is_kept_after x.later o ≡ true) w.is x.kept;
    }

-- A pair that is broken by an entry that leaves: it is the second operation's, and the first one's entry stands before it and holds it.
pub record IsBrokenThere (run : List Seen) (p q first second i : ℕ) (leaving : Entry) (delayed : List ℕ) (buffer : List Entry) : Type 0 where
  pub cpu : p ≡ q
  pub left : slice_get delayed i ≡ Some second
  pub place : ℕ
  pub entry : Entry
  pub before : place < i
  pub delayed_there : slice_get delayed place ≡ Some first
  pub buffered : slice_get buffer place ≡ Some entry
  pub holds : is_held_by leaving entry ≡ true

delay_shown : (act : Act) (entry : Entry) (operation : Operation) → act ≡ Delay entry → operation_shown act ≡ Some operation → operation ≡ operation_of entry
delay_shown act entry operation is shown =
    sym (same_Some (operation_of entry) operation (subst (λ (a : Act). operation_shown a ≡ Some operation) is shown))

pub broken_there : (run later : List Seen) (q i : ℕ) (leaving : Entry) (p first second : ℕ) (buffer : List Entry) → AreBuffered run q (delayed_in q run) buffer
    → slice_get buffer i ≡ Some leaving → IsBroken (run ++ Left q i leaving ∷ later) p first second (length run)
    → IsBrokenThere run p q first second i leaving (delayed_in q run) buffer
broken_there run later q i leaving p first second buffer tracks at x =
    let seen : Seen = Left q i leaving in
    let delayed = delayed_in q run in
    let left : slice_get delayed i ≡ Some second = effect_now run later seen p first second x in
    let within = below run q delayed buffer tracks i second left in
    let w = waiting run later seen p first second x (omega (arith, within)) in
    let there = x.executed_later in
    let read : slice_get run second ≡ Some (Ran p there.0 there.1) = sym (get_before run (seen ∷ later) second within) ∙ there.2 in
    let own = tracks.entries i second leaving left at in
    let same = same_ran p q there.0 own.0 there.1 (Delay leaving) (sym read ∙ own.1) in
    let operation = delay_shown there.1 leaving x.later same.1 there.3 in
    let not_crash : (count : ℕ) → slice_get run second ≢ Some (Crashed count) = λ count e. let bad : ◌≡◌ {A = Option Seen} (Some (Ran q own.0 (Delay leaving))) (Some (Crashed count)) = sym own.1 ∙ e in cc in
    let safe = no_crash_first run later seen p first second x (λ k count past e.
    elim (cases_eq k second) [
      | inl here ↦ not_crash count (subst (λ (n : ℕ). slice_get run n ≡ Some (Crashed count)) here e)
      | inr other ↦ tracks.no_crash i second left k count (omega (arith, past, other)) e
    ]) in
    let d : DelaysAt run q first w.entry = subst (λ (n : ℕ). DelaysAt run n first w.entry) same.0 w.delays in
    let found = delayed_entry run q delayed buffer tracks first w.entry d safe w.no_effect in
    record {
      cpu = same.0;
      left = left;
      place = found.0;
      entry = w.entry;
      before = elim (place found.0 i) [
        | inl before ↦ before
        | inr rest ↦ elim rest [
          | inl here ↦
              let both : Some first ≡ Some second = sym (subst (λ (n : ℕ). slice_get delayed n ≡ Some first) here found.1) ∙ left in
              absurd (omega (arith, x.in_order, same_Some first second both))
          | inr past ↦ absurd (omega (arith, x.in_order, tracks.ascending i found.0 second first past left found.1))
        ]
      ];
      delayed_there = found.1;
      buffered = found.2;
      holds =
          sym (kept_is_held leaving w.entry)
          ∙ subst (λ (o : Operation). is_kept_after o (operation_of w.entry) ≡ true) operation (subst (λ (o : Operation). is_kept_after x.later o ≡ true) w.is x.kept);
    }
