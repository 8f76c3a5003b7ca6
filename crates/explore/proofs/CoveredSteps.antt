-- A step of a covered state is one of the state that covers it, or leaves it covered, or finds no room there.
use Rattle.std.proofs.Common.{◌≡◌, ℕ, ◌+◌, ◌<◌, ◌≤◌, inl, inr, Bool, true, Some, Ok, Err, List, [], ◌∷◌, length, refl, sym, ap, subst, ◌∙◌, arith}
use Rattle.std.specs.Prelude.{◌⊎◌, slice_get, slice_set}
use Rattle.lines_layout.specs.Lines.{max_lines}
use Rattle.persist_buffer.specs.declared.entry.PendingEntry.{PendingEntry}
use Rattle.persist_buffer.specs.declared.entry.PendingEntry.TheVariants.{Write, Marker}
use Rattle.persist_buffer.specs.Listings.{LinesBelow}
use Rattle.persist_buffer.specs.Memories.{coherent}
use Rattle.persist_buffer.specs.State.{Memory}
use Rattle.persist_buffer.proofs.PersistingIsASplit.{persisting_always, settling_always}
use Rattle.pending_images.specs.Changes.{persists, settles}
use Rattle.machine.specs.declared.refusal.Refusal.{Refusal}
use Rattle.machine.specs.declared.refusal.Refusal.TheVariants.{LineFull, MarkersFull}
use Rattle.machine.specs.declared.step.Seen.{Seen}
use Rattle.machine.specs.declared.step.Seen.TheVariants.{Ran, Left}
use Rattle.machine.specs.declared.step.Step.{Step}
use Rattle.machine.specs.declared.step.Step.TheVariants.{Exec, Drain, Persist, Settle}
use Rattle.machine.specs.Limits.{max_turns}
use Rattle.machine.specs.Processors.{drain_of, run_by}
use Rattle.machine.specs.State.{Processor, State}
use Rattle.machine.specs.Steps.{step_of}
use Rattle.machine.proofs.DrainingIsASplit.{draining_always}
use Rattle.machine.proofs.PersistAndSettleStepsSplit.{not_past, persist_only, settle_only}
use Rattle.machine.proofs.ProcessorSteps.{drain_done, drain_found, drain_is, drain_only, exec_done, exec_found, exec_is, exec_only}
use Rattle.images.proofs.StepsReach.{lines_within}
use Rattle.explore.specs.Covering.{Covers, SpeaksFor, grown}
use Rattle.explore.specs.Questions.{is_room}
use Rattle.explore.specs.Sound.{IsSound}
use Rattle.explore.proofs.LaterMemories.{IsWhole}
use Rattle.explore.proofs.RunsOverLaterMemories as over
use Rattle.explore.proofs.SpeakingFor.{same_coherent, speaks_changed, speaks_grown, speaks_then}

fewer_lines : (lines most : ℕ) (es : List PendingEntry) → lines ≤ most → LinesBelow lines es → LinesBelow most es
fewer_lines lines most [] few below = tt
fewer_lines lines most (Write word value ∷ es) few below = let first = below.0 in (omega (arith, first, few), fewer_lines lines most es few below.1)
fewer_lines lines most (Marker line ∷ es) few below = fewer_lines lines most es few below

pub sound_whole : (s : State) → IsSound s → IsWhole s.memory
sound_whole s sound = record {
  lines = fewer_lines (length s.shape) max_lines s.memory.pending sound.shape.lines (lines_within s sound.within);
  persisted = sound.persisted;
}

-- the memory alone changes
pub persist_covered : (sets : Bool) (r t u : State) (line : ℕ) (seen : Seen) → IsSound t → Covers sets r t → step_of t (Persist line) ≡ Ok (seen, u) → Covers sets r u
persist_covered sets r t u line seen sound c e =
    let x = persist_only t u line seen e in record {
      shape = x.alone.shape ∙ c.shape;
      processors = x.alone.processors ∙ c.processors;
      memory = speaks_then sets r.memory t.memory u.memory c.memory (speaks_changed sets t.memory u.memory (sound_whole t sound)
          (persists line x.word x.value (persisting_always line t.memory u.memory x.word x.value x.before x.later x.split)));
    }

pub settle_covered : (sets : Bool) (r t u : State) (seen : Seen) → IsSound t → Covers sets r t → step_of t Settle ≡ Ok (seen, u) → Covers sets r u
settle_covered sets r t u seen sound c e =
    let x = settle_only t u seen e in record {
      shape = x.alone.shape ∙ c.shape;
      processors = x.alone.processors ∙ c.processors;
      memory = speaks_then sets r.memory t.memory u.memory c.memory (speaks_changed sets t.memory u.memory (sound_whole t sound)
          (settles x.line (settling_always x.line t.memory u.memory x.before x.later x.split)));
    }

-- a step of r that leads to a state that covers u, or that finds no room
pub record Follows (sets : Bool) (r : State) (step : Step) (u : State) : Type 0 where
  pub seen : Seen
  pub end : State
  pub made : step_of r step ≡ Ok (seen, end)
  pub covers : Covers sets end u

pub record Lacks (r : State) (step : Step) : Type 0 where
  pub refusal : Refusal
  pub refused : step_of r step ≡ Err refusal
  pub room : is_room refusal ≡ true

abbrev turned : State → ℕ → Processor → Memory → State
turned r p now m = record r { turns = r.turns + 1; processors = slice_set r.processors p now; memory = m }

-- what one processor left in both
both_left : (sets : Bool) (r t u : State) (p : ℕ) (now : Processor) (q : List PendingEntry) → Covers sets r t → u.shape ≡ t.shape → u.processors ≡ slice_set t.processors p now → u.memory ≡ grown t.memory q
    → Covers sets (turned r p now (grown r.memory q)) u
both_left sets r t u p now q c shape processors memory = record {
  shape = shape ∙ c.shape;
  processors = processors ∙ ap (λ (cpus : List Processor). slice_set cpus p now) c.processors;
  memory = subst (λ (m : Memory). SpeaksFor sets (grown r.memory q) m) (sym memory) (speaks_grown sets r.memory t.memory q c.memory);
}

same_values : (sets : Bool) (r t : State) → Covers sets r t → (word : ℕ) → coherent r.memory word ≡ coherent t.memory word
same_values sets r t c word = sym (same_coherent sets r.memory t.memory c.memory word)

pub exec_covered : (sets : Bool) (r t u : State) (p : ℕ) (seen : Seen) → Covers sets r t → r.turns < max_turns → step_of t (Exec p) ≡ Ok (seen, u) → Lacks r (Exec p) ⊎ Follows sets r (Exec p) u
exec_covered sets r t u p seen c time e =
    let x = exec_only t u p seen e in
    let there : slice_get r.processors p ≡ Some x.before = ap (λ (cpus : List Processor). slice_get cpus p) (sym c.processors) ∙ x.there in
    let found : step_of r (Exec p) ≡ exec_done r p x.before (run_by r.shape x.before r.memory) = exec_is r p (not_past r.turns max_turns time) ∙ ap (exec_found r p) there in
    let ran : run_by r.shape x.before t.memory ≡ Ok (x.act, (x.after, u.memory)) = ap (λ (shape : List ℕ). run_by shape x.before t.memory) (sym c.shape) ∙ x.ran in
    elim (over.run_over r.shape x.before x.after t.memory u.memory r.memory x.act (same_values sets r t c) ran) [
      | inl full ↦ inl (record { refusal = LineFull; refused = found ∙ ap (exec_done r p x.before) full; room = refl })
      | inr same ↦ inr (record {
        seen = Ran p x.before.place x.act;
        end = turned r p x.after (grown r.memory same.0);
        made = found ∙ ap (exec_done r p x.before) same.2;
        covers = both_left sets r t u p x.after same.0 c x.alone.shape x.alone.processors same.1;
      })
    ]

pub drain_covered : (sets : Bool) (r t u : State) (p i : ℕ) (seen : Seen) → Covers sets r t → r.turns < max_turns → step_of t (Drain p i) ≡ Ok (seen, u) → Lacks r (Drain p i) ⊎ Follows sets r (Drain p i) u
drain_covered sets r t u p i seen c time e =
    let x = drain_only t u p i seen e in
    let there : slice_get r.processors p ≡ Some x.before = ap (λ (cpus : List Processor). slice_get cpus p) (sym c.processors) ∙ x.there in
    let found : step_of r (Drain p i) ≡ drain_done r p i (drain_of x.before r.memory i) = drain_is r p i (not_past r.turns max_turns time) ∙ ap (drain_found r p i) there in
    let left = draining_always x.before x.after t.memory u.memory i x.entry x.earlier x.later x.split x.arrived in
    elim (over.drain_over x.before x.after t.memory u.memory r.memory i x.entry left) [
      | inl full ↦ elim full [
        | inl line ↦ inl (record { refusal = LineFull; refused = found ∙ ap (drain_done r p i) line; room = refl })
        | inr markers ↦ inl (record { refusal = MarkersFull; refused = found ∙ ap (drain_done r p i) markers; room = refl })
      ]
      | inr same ↦ inr (record {
        seen = Left p i x.entry;
        end = turned r p x.after (grown r.memory same.0);
        made = found ∙ ap (drain_done r p i) same.2;
        covers = both_left sets r t u p x.after same.0 c x.alone.shape x.alone.processors same.1;
      })
    ]
