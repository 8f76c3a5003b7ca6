-- A step that leaves all that a condition asks leaves what breaks it.
use Rattle.std.proofs.Common.{◌≡◌, ℕ, ◌+◌, Bool, true, false, not, true≢false, Option, Some, None, Ok, List, refl, sym, ap, ap₂, ◌∙◌, subst, inl, inr}
use Rattle.std.proofs.lemmas.Bool.{cases_Bool}
use Rattle.std.specs.Prelude.{find, option_map, slice_get, if◌then◌else◌}
use Rattle.lines_layout.specs.Lines.{has_word}
use Rattle.isa.specs.declared.register.Reg.{Reg}
use Rattle.isa.specs.Registers.{reg}
use Rattle.store_buffer.specs.declared.entry.Entry.{Entry}
use Rattle.store_buffer.specs.declared.entry.Entry.TheVariants as entries
use Rattle.persist_buffer.specs.State.{Memory}
use Rattle.persist_buffer.specs.Memories.{coherent}
use Rattle.processor.specs.declared.act.Act.{Act}
use Rattle.processor.specs.declared.act.Act.TheVariants.{Local, Fence, Read, Delay, Locked, Trap}
use Rattle.processor.specs.Contents.{Contents}
use Rattle.processor.specs.Acts.{IsShown}
use Rattle.machine.specs.declared.step.Step.{Step}
use Rattle.machine.specs.declared.step.Step.TheVariants.{Exec, Drain, Persist, Settle, Crash}
use Rattle.machine.specs.declared.step.Seen.{Seen}
use Rattle.machine.specs.declared.step.Seen.TheVariants.{Left, Persisted, Settled, Crashed}
use Rattle.machine.specs.State.{Processor, State}
use Rattle.machine.specs.Processors.{contents_of, receive_of}
use Rattle.machine.specs.Steps.{step_of}
use Rattle.machine.proofs.ExecShowsAll.{exec_shown}
use Rattle.machine.proofs.DrainingIsASplit.{fence_disappears}
use Rattle.machine.proofs.ProcessorSteps.{exec_only, drain_only}
use Rattle.machine.proofs.PersistAndSettleStepsSplit.{persist_only, settle_only}
use Rattle.machine.proofs.DelayedOperationsAreBuffered.{crash_seen}
use Rattle.pending_images.specs.Candidates.{candidates, count_of}
use Rattle.pending_images.specs.Listings as listings
use Rattle.images.specs.Images.{value_of}
use Rattle.conditions.specs.declared.cond.Operand.{Operand}
use Rattle.conditions.specs.declared.cond.Operand.TheVariants.{Persisted as PersistedWord, Coherent, Register}
use Rattle.conditions.specs.Formulas.{Formula}
use Rattle.conditions.specs.Truth.{holds_by, is_register, reads_registers}
use Rattle.conditions.proofs.SameValues.{words_decide}
use Rattle.images.specs.Truth.{holds_on, value_in, value_on}
use Rattle.hunt.specs.Crashes.{breach_by, broken_in}
use Rattle.hunt.specs.Unchanged.{act_leaves_all, leaves_all}
use Rattle.hunt.proofs.UnchangedRegisters.{registers_kept, set_kept}

-- Memory and lines are the same, and the registers where they count.
record IsSame (cond_reads_registers : Bool) (s u : State) : Type 0 where
  memory : u.memory ≡ s.memory
  shape : u.shape ≡ s.shape
  registers : cond_reads_registers ≡ true → (p : ℕ) (r : Reg) → value_in u (Register p r) ≡ value_in s (Register p r)

-- ---- steps ----

memory_shown : (act : Act) (cond_reads_registers : Bool) (s t : Contents) → act_leaves_all act cond_reads_registers ≡ true → IsShown act s t → t.memory ≡ s.memory
memory_shown Local cond_reads_registers s t keeps shown = ap (λ (x : Contents). x.memory) shown
memory_shown Fence cond_reads_registers s t keeps shown = ap (λ (x : Contents). x.memory) shown.1
memory_shown (Read word value) cond_reads_registers s t keeps shown = ap (λ (x : Contents). x.memory) shown.1
memory_shown (Delay entry) cond_reads_registers s t keeps shown = shown.memory
memory_shown (Locked word value None) cond_reads_registers s t keeps shown = ap (λ (x : Contents). x.memory) shown.2
memory_shown (Locked word value (Some new)) cond_reads_registers s t keeps shown = absurd (true≢false (sym keeps))
memory_shown (Trap address) cond_reads_registers s t keeps shown = ap (λ (x : Contents). x.memory) shown.1

left_memory : (p i : ℕ) (entry : Entry) (cond_reads_registers : Bool) (m n : Memory) → leaves_all (Left p i entry) cond_reads_registers ≡ true → receive_of m entry ≡ Ok n → n ≡ m
left_memory p i (entries.Write word value) cond_reads_registers m n keeps e = absurd (true≢false (sym keeps))
left_memory p i (entries.Flush line) cond_reads_registers m n keeps e = absurd (true≢false (sym keeps))
left_memory p i (entries.FlushOpt line) cond_reads_registers m n keeps e = absurd (true≢false (sym keeps))
left_memory p i entries.Sfence cond_reads_registers m n keeps e = fence_disappears m n e

shows_other : (cond_reads_registers : Bool) (seen other : Seen) → seen ≡ other → leaves_all other cond_reads_registers ≡ false → leaves_all seen cond_reads_registers ≡ true → ⊥
shows_other cond_reads_registers seen other is changes keeps = true≢false (sym keeps ∙ ap (λ (x : Seen). leaves_all x cond_reads_registers) is ∙ changes)

step_same : (cond_reads_registers : Bool) (s u : State) (step : Step) (seen : Seen) → step_of s step ≡ Ok (seen, u) → leaves_all seen cond_reads_registers ≡ true → IsSame cond_reads_registers s u
step_same cond_reads_registers s u (Exec p) seen made keeps =
    let x = exec_only s u p seen made in
    let act_keeps : act_leaves_all x.act cond_reads_registers ≡ true = subst (λ (y : Seen). leaves_all y cond_reads_registers ≡ true) x.shown keeps in
    record {
      memory = memory_shown x.act cond_reads_registers (contents_of s.shape x.before.buffer s.memory) (contents_of s.shape x.after.buffer u.memory) act_keeps
          (exec_shown s.shape x.before x.after s.memory u.memory x.act x.ran);
      shape = x.alone.shape;
      registers = λ counts q r.
          let same = registers_kept s.shape x.before x.after s.memory u.memory x.act (subst (λ (b : Bool). act_leaves_all x.act b ≡ true) counts act_keeps) x.ran in
          ap (λ (cpus : List Processor). option_map (λ (c : Processor). reg c.regs r) (slice_get cpus q)) x.alone.processors
          ∙ set_kept s.processors p x.before x.after q r x.there same;
    }
step_same cond_reads_registers s u (Drain p i) seen made keeps =
    let x = drain_only s u p i seen made in
    let left_keeps : leaves_all (Left p i x.entry) cond_reads_registers ≡ true = subst (λ (y : Seen). leaves_all y cond_reads_registers ≡ true) x.shown keeps in
    record {
      memory = left_memory p i x.entry cond_reads_registers s.memory u.memory left_keeps x.arrived;
      shape = x.alone.shape;
      registers = λ counts q r.
          ap (λ (cpus : List Processor). option_map (λ (c : Processor). reg c.regs r) (slice_get cpus q)) x.alone.processors
          ∙ set_kept s.processors p x.before x.after q r x.there (ap (λ (c : Processor). c.regs) x.split.rest);
    }
step_same cond_reads_registers s u (Persist line) seen made keeps =
    let x = persist_only s u line seen made in absurd (shows_other cond_reads_registers seen (Persisted x.word x.value) x.shown refl keeps)
step_same cond_reads_registers s u Settle seen made keeps =
    let x = settle_only s u seen made in absurd (shows_other cond_reads_registers seen (Settled x.line) x.shown refl keeps)
step_same cond_reads_registers s u Crash seen made keeps = absurd (shows_other cond_reads_registers seen (Crashed (s.crashes + 1)) (crash_seen s u seen made) refl keeps)

-- ---- conditions ----

same_word : (cond_reads_registers : Bool) (s u : State) (image : List ℕ) → IsSame cond_reads_registers s u → (operand : Operand) → is_register operand ≡ false → value_on u image operand ≡ value_on s image operand
same_word cond_reads_registers s u image same (PersistedWord word) none = ap (λ (lines : List ℕ). value_of lines image word) same.shape
same_word cond_reads_registers s u image same (Coherent word) none =
    ap₂ (λ (lines : List ℕ) (m : Memory). if has_word lines word then Some (coherent m word) else None) same.shape same.memory
same_word cond_reads_registers s u image same (Register p r) none = absurd (true≢false none)

same_value : (cond_reads_registers : Bool) (s u : State) (image : List ℕ) → IsSame cond_reads_registers s u → cond_reads_registers ≡ true → (operand : Operand) → value_on u image operand ≡ value_on s image operand
same_value cond_reads_registers s u image same counts (PersistedWord word) = same_word cond_reads_registers s u image same (PersistedWord word) refl
same_value cond_reads_registers s u image same counts (Coherent word) = same_word cond_reads_registers s u image same (Coherent word) refl
same_value cond_reads_registers s u image same counts (Register p r) = same.registers counts p r

same_truth : (f : Formula) (s u : State) (image : List ℕ) → IsSame (reads_registers f) s u → holds_on u f image ≡ holds_on s f image
same_truth f s u image same = elim (cases_Bool (reads_registers f)) [
  | inl counts ↦ ap (λ (v : Operand → Option ℕ). holds_by v f) (λ i operand. same_value (reads_registers f) s u image same counts operand i)
  | inr none ↦ words_decide (value_on u image) (value_on s image) (same_word (reads_registers f) s u image same) f none
]

same_breach : (f : Formula) (s u : State) → IsSame (reads_registers f) s u → broken_in f u ≡ broken_in f s
same_breach f s u same = λ i.
    breach_by (count_of (candidates (same.memory i).pending)) (find (λ image. not (same_truth f s u image same i)) (listings.images_of (same.shape i) (same.memory i)))

-- nothing broke the condition, and the step left all that it asks
pub still_unbroken : (f : Formula) (s u : State) (step : Step) (seen : Seen) → leaves_all seen (reads_registers f) ≡ true → step_of s step ≡ Ok (seen, u) → broken_in f s ≡ None → None ≡ broken_in f u
still_unbroken f s u step seen keeps made none = sym (same_breach f s u (step_same (reads_registers f) s u step seen made keeps) ∙ none)
