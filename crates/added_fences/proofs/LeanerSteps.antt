-- A state without some flushes and fences makes each step of the other, or has no need of it.
use Rattle.std.proofs.Common.{◌≡◌, ℕ, ◌+◌, ◌≤◌, ◌<◌, Some, Ok, List, length, refl, sym, ◌∙◌, ap, subst, arith, inl, inr}
use Rattle.std.specs.Prelude.{slice_get, slice_set}
use Rattle.outcomes.proofs.PartsOfOutcomes.{answer_of}
use Rattle.persist_buffer.specs.State.{Memory}
use Rattle.machine.specs.declared.step.Seen.{Seen}
use Rattle.machine.specs.declared.step.Seen.TheVariants.{Crashed, Left, Persisted, Ran, Settled}
use Rattle.machine.specs.declared.step.Step.{Step}
use Rattle.machine.specs.declared.step.Step.TheVariants.{Exec, Drain, Persist, Settle, Crash}
use Rattle.machine.specs.Limits.{max_turns}
use Rattle.machine.specs.Processors.{restart_of, run_by}
use Rattle.machine.specs.State.{Processor, State}
use Rattle.machine.specs.StepRelations.{IsMemoryTurn, IsProcessorTurn}
use Rattle.machine.specs.Steps.{crash_of, step_of}
use Rattle.machine.proofs.PersistAndSettleStepsSplit.{not_past, persist_always, persist_only, settle_always, settle_only, step_in_time, turn_left}
use Rattle.machine.proofs.ProcessorSteps.{drain_always, drain_only, exec_always, exec_only}
use Rattle.fewer_fences.specs.Thinner.{AreByPlace, IsThinnerMemory}
use Rattle.fewer_fences.proofs.ThinnedLists.{mapped_by_place, other_there, set_by_place, set_there}
use Rattle.fewer_fences.proofs.ThinnerMemories.{persisted_too, settled_too}
use Rattle.added_fences.specs.Added.{IsLeaner, IsLeanerProcessor}
use Rattle.added_fences.specs.Traced.{IsMadeToo, IsTraced, shows_order_alone}
use Rattle.added_fences.proofs.LeanerProcessors.{drained_too, restarts_too, run_too}

in_time : (a b most : ℕ) → a ≤ b → b < most → a < most
in_time a b most no_later left = omega (arith, no_later, left)

one_later : (a b c : ℕ) → a ≤ b → c ≡ b + 1 → a + 1 ≤ c
one_later a b c no_later is = omega (arith, no_later, is)

still_no_later : (a b c : ℕ) → a ≤ b → c ≡ b + 1 → a ≤ c
still_no_later a b c no_later is = omega (arith, no_later, is)

lined_up : (over again : List ℕ) (xs now ys : List Processor) → again ≡ over → now ≡ xs → AreByPlace (IsLeanerProcessor over) xs ys → AreByPlace (IsLeanerProcessor again) now ys
lined_up over again xs now ys e f h =
    subst (λ (o : List ℕ). AreByPlace (IsLeanerProcessor o) now ys) (sym e) (subst (λ (zs : List Processor). AreByPlace (IsLeanerProcessor over) zs ys) (sym f) h)

-- ---- one processor and the memory change

module _ (more less after : State) (p : ℕ) (now : Processor) (h : IsLeaner more less) (alone : IsProcessorTurn p now more after) where
  abbrev moved : Processor → Memory → State
  moved e m = record less { turns = less.turns + 1; processors = slice_set less.processors p e; memory = m }

  is_moved : (e : Processor) (m : Memory) → IsProcessorTurn p e less (moved e m)
  is_moved e m = record { turns = refl; crashes = refl; shape = refl; processors = refl }

  both_moved : (e : Processor) (m : Memory) → IsLeanerProcessor more.shape now e → IsThinnerMemory after.memory m → IsLeaner after (moved e m)
  both_moved e m leaner thin_memory = record {
    turns = one_later less.turns more.turns after.turns h.turns alone.turns;
    crashes = h.crashes ∙ sym alone.crashes;
    shape = h.shape ∙ sym alone.shape;
    processors = lined_up more.shape after.shape (slice_set more.processors p now) after.processors (slice_set less.processors p e) alone.shape alone.processors
        (set_by_place (IsLeanerProcessor more.shape) more.processors less.processors p now e h.processors leaner);
    memory = thin_memory;
  }

  -- it changes in the other alone
  one_moved : (e : Processor) → slice_get less.processors p ≡ Some e → IsLeanerProcessor more.shape now e → IsThinnerMemory after.memory less.memory → IsLeaner after less
  one_moved e there leaner thin_memory = record {
    turns = still_no_later less.turns more.turns after.turns h.turns alone.turns;
    crashes = h.crashes ∙ sym alone.crashes;
    shape = h.shape ∙ sym alone.shape;
    processors = lined_up more.shape after.shape (slice_set more.processors p now) after.processors less.processors alone.shape alone.processors
        (subst (λ (ys : List Processor). AreByPlace (IsLeanerProcessor more.shape) (slice_set more.processors p now) ys) (set_there less.processors p e there)
        (set_by_place (IsLeanerProcessor more.shape) more.processors less.processors p now e h.processors leaner));
    memory = thin_memory;
  }

pub exec_too : (more less after : State) (p : ℕ) (seen : Seen) → IsLeaner more less → step_of more (Exec p) ≡ Ok (seen, after) → IsTraced (Exec p) seen less after
exec_too more less after p seen h e =
    let x = exec_only more after p seen e in
    let there = other_there more.processors less.processors p x.before h.processors.count x.there in
    let lean = h.processors.each p x.before there.0 x.there there.1 in
    elim (run_too more.shape x.before x.after there.0 more.memory after.memory less.memory x.act lean h.memory x.ran) [
      | inl too ↦ inl (record {
        seen = Ran p there.0.place too.act;
        end = moved more less after p x.after h x.alone too.after too.memory;
        made = Exec p;
        alike = refl;
        accepted = exec_always less (moved more less after p x.after h x.alone too.after too.memory) p (Ran p there.0.place too.act) (record {
          before = there.0;
          after = too.after;
          act = too.act;
          turn_left = in_time less.turns more.turns max_turns h.turns x.turn_left;
          there = there.1;
          ran = subst (λ over. run_by over there.0 less.memory ≡ Ok (too.act, (too.after, too.memory))) (sym h.shape) too.ran;
          shown = refl;
          alone = is_moved more less after p x.after h x.alone too.after too.memory;
        });
        leaner = both_moved more less after p x.after h x.alone too.after too.memory too.leaner too.thin_memory;
      })
      | inr lacks ↦ inr (record {
        spared = refl;
        shown = ap shows_order_alone x.shown ∙ lacks.orders;
        leaner = one_moved more less after p x.after h x.alone there.0 there.1 lacks.leaner lacks.thin_memory;
      })
    ]

pub drain_too : (more less after : State) (p i : ℕ) (seen : Seen) → IsLeaner more less → step_of more (Drain p i) ≡ Ok (seen, after)
    → IsTraced (Drain p i) seen less after
drain_too more less after p i seen h e =
    let x = drain_only more after p i seen e in
    let there = other_there more.processors less.processors p x.before h.processors.count x.there in
    let lean = h.processors.each p x.before there.0 x.there there.1 in
    elim (drained_too more.shape i x.entry x.before x.after there.0 more.memory after.memory less.memory x.earlier x.later lean h.memory x.split x.arrived) [
      | inl too ↦ inl (record {
        seen = Left p too.place x.entry;
        end = moved more less after p x.after h x.alone too.after too.memory;
        made = Drain p too.place;
        alike = (too.place, refl);
        accepted = drain_always less (moved more less after p x.after h x.alone too.after too.memory) p too.place (Left p too.place x.entry) (record {
          before = there.0;
          after = too.after;
          entry = x.entry;
          earlier = too.before;
          later = too.later;
          turn_left = in_time less.turns more.turns max_turns h.turns x.turn_left;
          there = there.1;
          split = too.split;
          arrived = too.arrived;
          shown = refl;
          alone = is_moved more less after p x.after h x.alone too.after too.memory;
        });
        leaner = both_moved more less after p x.after h x.alone too.after too.memory too.leaner too.thin_memory;
      })
      | inr lacks ↦ inr (record {
        spared = refl;
        shown = ap shows_order_alone x.shown ∙ lacks.drops;
        leaner = one_moved more less after p x.after h x.alone there.0 there.1 lacks.leaner lacks.thin_memory;
      })
    ]

-- ---- the memory alone changes

module _ (more less after : State) (h : IsLeaner more less) (alone : IsMemoryTurn more after) where
  abbrev turned : Memory → State
  turned m = record less { turns = less.turns + 1; memory = m }

  is_turned : (m : Memory) → IsMemoryTurn less (turned m)
  is_turned m = record { turns = refl; crashes = refl; shape = refl; processors = refl }

  both_turned : (m : Memory) → IsThinnerMemory after.memory m → IsLeaner after (turned m)
  both_turned m thin_memory = record {
    turns = one_later less.turns more.turns after.turns h.turns alone.turns;
    crashes = h.crashes ∙ sym alone.crashes;
    shape = h.shape ∙ sym alone.shape;
    processors = lined_up more.shape after.shape more.processors after.processors less.processors alone.shape alone.processors h.processors;
    memory = thin_memory;
  }

  one_turned : IsThinnerMemory after.memory less.memory → IsLeaner after less
  one_turned thin_memory = record {
    turns = still_no_later less.turns more.turns after.turns h.turns alone.turns;
    crashes = h.crashes ∙ sym alone.crashes;
    shape = h.shape ∙ sym alone.shape;
    processors = lined_up more.shape after.shape more.processors after.processors less.processors alone.shape alone.processors h.processors;
    memory = thin_memory;
  }

pub persist_too : (more less after : State) (line : ℕ) (seen : Seen) → IsLeaner more less → step_of more (Persist line) ≡ Ok (seen, after) → IsMadeToo (Persist line) less after
persist_too more less after line seen h e =
    let x = persist_only more after line seen e in
    let too = persisted_too line x.word x.value more.memory less.memory after.memory x.before x.later h.memory x.split in
    record {
      seen = Persisted x.word x.value;
      end = turned more less after h x.alone too.after;
      made = Persist line;
      alike = refl;
      accepted = persist_always less (turned more less after h x.alone too.after) line (Persisted x.word x.value) (record {
        word = x.word;
        value = x.value;
        before = too.before;
        later = too.later;
        turn_left = in_time less.turns more.turns max_turns h.turns x.turn_left;
        there = subst (λ (over : List ℕ). line < length over) (sym h.shape) x.there;
        split = too.split;
        shown = refl;
        alone = is_turned more less after h x.alone too.after;
      });
      leaner = both_turned more less after h x.alone too.after too.thinner;
    }

pub settle_too : (more less after : State) (seen : Seen) → IsLeaner more less → step_of more Settle ≡ Ok (seen, after) → IsTraced Settle seen less after
settle_too more less after seen h e =
    let x = settle_only more after seen e in
    elim (settled_too x.line more.memory less.memory after.memory x.before x.later h.memory x.split) [
      | inl too ↦ inl (record {
        seen = Settled x.line;
        end = turned more less after h x.alone too.after;
        made = Settle;
        alike = refl;
        accepted = settle_always less (turned more less after h x.alone too.after) (Settled x.line) (record {
          line = x.line;
          before = too.before;
          later = too.later;
          turn_left = in_time less.turns more.turns max_turns h.turns x.turn_left;
          split = too.split;
          shown = refl;
          alone = is_turned more less after h x.alone too.after;
        });
        leaner = both_turned more less after h x.alone too.after too.thinner;
      })
      | inr thinner ↦ inr (record { spared = refl; shown = ap shows_order_alone x.shown; leaner = one_turned more less after h x.alone thinner })
    ]

-- ---- a crash

crash_is : (s t : State) (seen : Seen) → step_of s Crash ≡ Ok (seen, t) → t ≡ record (crash_of s) { turns = s.turns + 1 }
crash_is s t seen e =
    let left = turn_left s t Crash seen e in
    (answer_of (Crashed (s.crashes + 1)) seen (record (crash_of s) { turns = s.turns + 1 }) t (rw left at e)).1

both_crashed : (more less : State) → IsLeaner more less → IsLeaner (record (crash_of more) { turns = more.turns + 1 }) (record (crash_of less) { turns = less.turns + 1 })
both_crashed more less h = record {
  turns = one_later less.turns more.turns (more.turns + 1) h.turns refl;
  crashes = ap (λ (n : ℕ). n + 1) h.crashes;
  shape = h.shape;
  processors = mapped_by_place (IsLeanerProcessor more.shape) (IsLeanerProcessor more.shape) restart_of more.processors less.processors (restarts_too more.shape) h.processors;
  memory = record { pending = refl; persisted = h.memory.persisted };
}

pub crash_too : (more less after : State) (seen : Seen) → IsLeaner more less → step_of more Crash ≡ Ok (seen, after) → IsMadeToo Crash less after
crash_too more less after seen h e =
    let left = not_past less.turns max_turns (in_time less.turns more.turns max_turns h.turns (step_in_time more after Crash seen e)) in
    record {
      seen = Crashed (less.crashes + 1);
      end = record (crash_of less) { turns = less.turns + 1 };
      made = Crash;
      alike = refl;
      accepted = rw left refl;
      leaner = subst (λ (x : State). IsLeaner x (record (crash_of less) { turns = less.turns + 1 })) (sym (crash_is more after seen e)) (both_crashed more less h);
    }

-- ---- any step

pub traced : (more less after : State) (step : Step) (seen : Seen) → IsLeaner more less → step_of more step ≡ Ok (seen, after) → IsTraced step seen less after
traced more less after (Exec p) seen h e = exec_too more less after p seen h e
traced more less after (Drain p i) seen h e = drain_too more less after p i seen h e
traced more less after (Persist line) seen h e = inl (persist_too more less after line seen h e)
traced more less after Settle seen h e = settle_too more less after seen h e
traced more less after Crash seen h e = inl (crash_too more less after seen h e)
