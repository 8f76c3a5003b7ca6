-- The first broken pair: what the first step that is refused for its order breaks.
use Rattle.std.proofs.Common.{◌≡◌, ℕ, ◌+◌, ◌<◌, ◌≤◌, true, false, Some, None, Ok, List, [], ◌∷◌, ◌++◌, length, refl, sym, ◌∙◌, ap, subst, inl, inr, arith}
use Rattle.std.specs.Prelude.{slice_get}
use Rattle.std.proofs.lemmas.Bool.{cases_eq, cases_lt}
use Rattle.std.proofs.lemmas.Option.{same_Some}
use Rattle.std.proofs.lemmas.List.{length-append}
use Rattle.outcomes.proofs.ListsByPlace.{slice_get_seam}
use Rattle.order_table.specs.Operations.{Operation, is_kept_after}
use Rattle.store_buffer.specs.declared.entry.Entry.{Entry}
use Rattle.store_buffer.specs.Indexes.{operation_of}
use Rattle.store_buffer.specs.Splits.{IsOldestHolder}
use Rattle.processor.specs.declared.act.Act.{Act}
use Rattle.processor.specs.declared.act.Act.TheVariants.{Delay}
use Rattle.processor.proofs.WaitingIsTheTables.{locked_waits, fence_waits}
use Rattle.machine.specs.declared.step.Step.{Step}
use Rattle.machine.specs.declared.step.Seen.{Seen}
use Rattle.machine.specs.declared.step.Seen.TheVariants.{Ran, Left}
use Rattle.machine.specs.State.{State}
use Rattle.machine.specs.Steps.{step_of}
use Rattle.machine.specs.Effects.{operation_shown, is_immediate, delayed_in, effect_by, effect_at, IsBroken, IsAnswer}
use Rattle.machine.specs.Buffered.{AreBuffered}
use Rattle.machine.proofs.DelayedInOneProcessor.{get_before, effect_before, effect_here, effect_within, entry_of, below}
use Rattle.machine.proofs.DelayedOperationsAreBuffered.{Keeps}
use Rattle.machine.proofs.BrokenPairs.{kept_is_held, broken_now, broken_there}
use Rattle.machine.proofs.AcceptedStepsBreakNoPair.{step_in_order}
use Rattle.machine.proofs.OperationsAreTheInstructions.{IsFenceLike}

-- no step before the n-th breaks a pair
abbrev pub NoneBefore : List Seen → ℕ → Type 0
NoneBefore run n = (p first second at : ℕ) → at < n → IsBroken run p first second at → ⊥

-- the second operation of a pair that the step after a run breaks, and a first one that is delayed
pub record Breaks (run : List Seen) (seen : Seen) (p first second : ℕ) (delayed : List ℕ) (buffer : List Entry) : Type 0 where
  pub place : ℕ
  pub entry : Entry
  pub later : Operation
  pub there : slice_get delayed place ≡ Some first
  pub buffered : slice_get buffer place ≡ Some entry
  pub at : ℕ
  pub act : Act
  pub executed : slice_get (run ++ seen ∷ []) second ≡ Some (Ran p at act)
  pub shown : operation_shown act ≡ Some later
  pub in_order : first < second
  pub reached : second ≤ length run
  pub kept : is_kept_after later (operation_of entry) ≡ true
  pub effect : effect_by run seen ≡ Some second

again : (run later : List Seen) (seen : Seen) (k : ℕ) (other : Seen) → k ≤ length run → slice_get (run ++ seen ∷ []) k ≡ Some other → slice_get (run ++ seen ∷ later) k ≡ Some other
again run later seen k other reached e =
    elim (cases_eq k (length run)) [
      | inl here ↦
          let read : slice_get (run ++ seen ∷ []) (length run) ≡ Some other = subst (λ (n : ℕ). slice_get (run ++ seen ∷ []) n ≡ Some other) here e in
          let now : slice_get (run ++ seen ∷ later) (length run) ≡ Some other = slice_get_seam run later seen ∙ sym (slice_get_seam run [] seen) ∙ read in
          subst (λ (n : ℕ). slice_get (run ++ seen ∷ later) n ≡ Some other) (sym here) now
      | inr other_place ↦
          let within : k < length run = omega (arith, reached, other_place) in
          get_before run (seen ∷ later) k within ∙ sym (get_before run (seen ∷ []) k within) ∙ e
    ]

breaks_is_broken : (run later : List Seen) (seen : Seen) (p first second : ℕ) (delayed : List ℕ) (buffer : List Entry) → AreBuffered run p delayed buffer
    → Breaks run seen p first second delayed buffer → IsBroken (run ++ seen ∷ later) p first second (length run)
breaks_is_broken run later seen p first second delayed buffer x b =
    let d = x.entries b.place first b.entry b.there b.buffered in
    let within = below run p delayed buffer x b.place first b.there in
    record {
      earlier = operation_of b.entry;
      later = b.later;
      executed = (d.0, Delay b.entry, get_before run (seen ∷ later) first within ∙ d.1, refl);
      executed_later = (b.at, b.act, again run later seen second (Ran p b.at b.act) b.reached b.executed, b.shown);
      in_order = b.in_order;
      no_crash = λ k count after before e.
          x.no_crash b.place first b.there k count after (sym (get_before run (seen ∷ later) k (omega (arith, before, b.reached))) ∙ e);
      kept = b.kept;
      effect = effect_here run later seen ∙ b.effect;
      not_before = λ k reached e.
          elim (cases_eq k (length run)) [
            | inl here ↦
                let read : effect_at (run ++ seen ∷ later) (length run) ≡ Some first = subst (λ (n : ℕ). effect_at (run ++ seen ∷ later) n ≡ Some first) here e in
                let both : Some second ≡ Some first = sym b.effect ∙ sym (effect_here run later seen) ∙ read in
                absurd (omega (arith, b.in_order, same_Some second first both))
            | inr other ↦
                x.no_effect b.place first b.there k (sym (effect_before run (seen ∷ later) k (omega (arith, reached, other))) ∙ e)
          ];
    }

at_least : (run : List Seen) (n : ℕ) → NoneBefore run n → (p first second at : ℕ) → IsBroken run p first second at → n ≤ at
at_least run n none p first second at x =
    elim (cases_lt at n) [ inl before ↦ absurd (none p first second at before x) | inr past ↦ past ]

-- places rise with the operations
no_older : (run : List Seen) (q : ℕ) (delayed : List ℕ) (buffer : List Entry) → AreBuffered run q delayed buffer → (j k a b : ℕ) → j ≤ k
    → slice_get delayed j ≡ Some a → slice_get delayed k ≡ Some b → a ≤ b
no_older run q delayed buffer x j k a b order one two =
    elim (cases_eq j k) [
      | inl same ↦
          let both : Some a ≡ Some b = sym (subst (λ (n : ℕ). slice_get delayed n ≡ Some a) same one) ∙ two in
          omega (arith, same_Some a b both)
      | inr other ↦ omega (arith, x.ascending j k a b (omega (arith, order, other)) one two)
    ]

-- a fence or locked operation is kept behind every entry
fence_like_kept : (act : Act) (entry : Entry) → IsFenceLike act
    → (o : Operation) × (operation_shown act ≡ Some o) × (is_kept_after o (operation_of entry) ≡ true) × (is_immediate act ≡ true)
fence_like_kept act entry (inl e) = (_, ap operation_shown e, fence_waits entry _, ap is_immediate e)
fence_like_kept act entry (inr l) = (_, ap operation_shown l.3, locked_waits entry _, ap is_immediate l.3)

immediate_now : (run : List Seen) (p at : ℕ) (act : Act) → is_immediate act ≡ true → effect_by run (Ran p at act) ≡ Some (length run)
immediate_now run p at act now = rw now refl

pub answer_exec : (run later : List Seen) (p at first : ℕ) (act : Act) (buffer : List Entry) → AreBuffered run p (delayed_in p run) buffer
    → IsFenceLike act → slice_get (delayed_in p run) 0 ≡ Some first → NoneBefore (run ++ Ran p at act ∷ later) (length run)
    → IsAnswer (run ++ Ran p at act ∷ later) (Some (record { cpu = p; first = first; second = length run; at = length run }))
answer_exec run later p at first act buffer x fence there none =
    let seen : Seen = Ran p at act in
    let e = entry_of run p (delayed_in p run) buffer x 0 first there in
    let o = fence_like_kept act e.0 fence in
    record {
      broken = breaks_is_broken run later seen p first (length run) (delayed_in p run) buffer x (record {
        place = 0;
        entry = e.0;
        later = o.0;
        there = there;
        buffered = e.1;
        at = at;
        act = act;
        executed = slice_get_seam run [] seen;
        shown = o.1;
        in_order = below run p (delayed_in p run) buffer x 0 first there;
        reached = omega (arith);
        kept = o.2;
        effect = immediate_now run p at act o.3;
      });
      soonest = at_least (run ++ seen ∷ later) (length run) none;
      oldest = λ q other second y.
          let b = broken_now run later p at act q other second buffer x y in
          no_older run p (delayed_in p run) buffer x 0 b.place first other (omega (arith)) there b.delayed_there;
    }

pub answer_drain : (run later : List Seen) (p i holder first second : ℕ) (leaving : Entry) (buffer : List Entry) → AreBuffered run p (delayed_in p run) buffer
    → slice_get buffer i ≡ Some leaving → IsOldestHolder buffer i leaving holder → slice_get (delayed_in p run) holder ≡ Some first
    → slice_get (delayed_in p run) i ≡ Some second → NoneBefore (run ++ Left p i leaving ∷ later) (length run)
    → IsAnswer (run ++ Left p i leaving ∷ later) (Some (record { cpu = p; first = first; second = second; at = length run }))
answer_drain run later p i holder first second leaving buffer x at held one two none =
    let seen : Seen = Left p i leaving in
    let delayed = delayed_in p run in
    let own = x.entries i second leaving two at in
    let within = below run p delayed buffer x i second two in
    record {
      broken = breaks_is_broken run later seen p first second delayed buffer x (record {
        place = holder;
        entry = held.holds.0;
        later = operation_of leaving;
        there = one;
        buffered = held.holds.1;
        at = own.0;
        act = Delay leaving;
        executed = get_before run (seen ∷ []) second within ∙ own.1;
        shown = refl;
        in_order = x.ascending holder i first second held.earlier one two;
        reached = omega (arith, within);
        kept = kept_is_held leaving held.holds.0 ∙ held.holds.2;
        effect = two;
      });
      soonest = at_least (run ++ seen ∷ later) (length run) none;
      oldest = λ q other later_operation y.
          let b = broken_there run later p i leaving q other later_operation buffer x at y in
          let order : holder ≤ b.place = elim (cases_lt b.place holder) [
            | inl before ↦ let bad : false ≡ true = sym (held.oldest b.place b.entry before b.buffered) ∙ b.holds in absurd (cc)
            | inr past ↦ past
          ] in
          no_older run p delayed buffer x holder b.place first other order one b.delayed_there;
    }

pub answer_none : (run later : List Seen) → later ≡ [] → NoneBefore (run ++ later) (length run) → IsAnswer (run ++ later) None
answer_none run later ended none p first second at x =
    let within : at < length (run ++ later) = effect_within (run ++ later) at second x.effect in
    let long : length (run ++ later) ≡ length run + length later = length-append run later in
    none p first second at (omega (arith, within, long, ap (λ (l : List Seen). length l) ended)) x

pub none_more : (run later : List Seen) (s t : State) (step : Step) (seen : Seen) → Keeps run s → step_of s step ≡ Ok (seen, t)
    → NoneBefore (run ++ seen ∷ later) (length run) → NoneBefore (run ++ seen ∷ later) (length run + 1)
none_more run later s t step seen k e none p first second at before x =
    elim (cases_eq at (length run)) [
      | inl here ↦ step_in_order run later s t step seen p first second k e (subst (λ (n : ℕ). IsBroken (run ++ seen ∷ later) p first second n) here x)
      | inr other ↦ none p first second at (omega (arith, before, other)) x
    ]
