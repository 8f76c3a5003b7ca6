-- A step that is made without the test of its order, in the words of the rules.
use Rattle.std.proofs.Common.{◌≡◌, ℕ, suc, Option, Some, None, Result, Ok, Err, List, [], ◌∷◌, ◌++◌, length, take, drop, remove, refl, sym, ◌∙◌, ap, subst, inl, inr}
use Rattle.std.specs.Prelude.{slice_get}
use Rattle.std.proofs.Math.Seq.{take-append_seam}
use Rattle.outcomes.proofs.PartsOfOutcomes.{answer_of}
use Rattle.outcomes.proofs.ListsByPlace.{split_at, place_of, drop_past_seam}
use Rattle.store_buffer.specs.declared.entry.Entry.{Entry}
use Rattle.persist_buffer.specs.declared.fault.PendingFault.{PendingFault}
use Rattle.persist_buffer.specs.State.{Memory}
use Rattle.processor.specs.declared.act.Act.{Act}
use Rattle.processor.specs.declared.act.Act.TheVariants.{Fence, Locked}
use Rattle.processor.specs.declared.refusal.Refusal as exec
use Rattle.processor.specs.Acts.{IsShown}
use Rattle.processor.specs.Contents.{Contents}
use Rattle.processor.specs.Cpus.{Cpu}
use Rattle.processor.specs.Executions.{exec_of}
use Rattle.processor.specs.Instructions.{IsRunOf}
use Rattle.processor.proofs.ActsShowAll.{acts_show_all, shown_shape}
use Rattle.processor.proofs.InstructionsRunAsTold.{run_only, run_always}
use Rattle.machine.specs.declared.step.Step.TheVariants.{Exec, Drain}
use Rattle.machine.specs.declared.step.Seen.{Seen}
use Rattle.machine.specs.declared.step.Seen.TheVariants.{Ran, Left}
use Rattle.machine.specs.declared.refusal.Refusal.TheVariants.{BufferNotEmpty, Held}
use Rattle.machine.specs.State.{Processor, State}
use Rattle.machine.specs.Processors.{program_of, cpu_of, contents_of, receive_of}
use Rattle.machine.specs.Steps.{step_of}
use Rattle.machine.specs.StepRelations.{IsProcessorTurn, IsUnwaitedStep, IsUnheldStep}
use Rattle.machine.specs.LooseSteps.{turned, unordered, loose_step_of}
use Rattle.machine.proofs.HeldDrainNamesTheOldestHolder.{held_drain}
use Rattle.machine.proofs.AcceptedStepsBreakNoPair.{at_split}
use Rattle.machine.proofs.OperationsAreTheInstructions.{IsFenceLike, IsWaited, waited_shows}
use Rattle.machine.proofs.StepsWithoutOrderTests.{waits_there, exec_unwaiting_found, unwaiting_with, unheld_with, drain_unheld_found, drain_entry_found}

-- one turn later, with processor p and the memory changed
turned_only : (s t : State) (p : ℕ) (now : Processor) (m : Memory) → t ≡ turned s p (now, m) → IsProcessorTurn p now s t
turned_only s t p now m e = record {
  turns = ap (λ (x : State). x.turns) e;
  crashes = ap (λ (x : State). x.crashes) e;
  shape = ap (λ (x : State). x.shape) e;
  processors = ap (λ (x : State). x.processors) e;
}

turned_is : (s t : State) (p : ℕ) (now : Processor) → IsProcessorTurn p now s t → turned s p (now, t.memory) ≡ t
turned_is s t p now a = λ k. record {
  turns = sym a.turns k;
  crashes = sym a.crashes k;
  shape = sym a.shape k;
  processors = sym a.processors k;
  memory = t.memory;
}

-- an instruction that waits

-- a fence or locked operation buffers nothing
locked_buffer : (word old : ℕ) (written : Option ℕ) (s t : Contents) → IsShown (Locked word old written) s t → t.buffer ≡ s.buffer
locked_buffer word old None s t x = ap (λ (y : Contents). y.buffer) x.2
locked_buffer word old (Some new) s t x = x.2.buffer

fence_like_buffer : (act : Act) (s t : Contents) → IsFenceLike act → IsShown act s t → t.buffer ≡ s.buffer
fence_like_buffer act s t (inl e) x =
    let shown : IsShown Fence s t = subst (λ (a : Act). IsShown a s t) e x in
    ap (λ (y : Contents). y.buffer) shown.1
fence_like_buffer act s t (inr l) x = locked_buffer l.0 l.1 l.2 s t (subst (λ (a : Act). IsShown a s t) l.3 x)

-- so only the memory is another after it
fence_like_leaves : (shape : List ℕ) (m : Memory) (act : Act) (t : Contents) → IsFenceLike act → IsShown act (contents_of shape [] m) t → t ≡ contents_of shape [] t.memory
fence_like_leaves shape m act t fence x = λ k. record {
  shape = shown_shape act (contents_of shape [] m) t x k;
  buffer = fence_like_buffer act (contents_of shape [] m) t fence x k;
  memory = t.memory;
}

unwaited_done : (s t : State) (p : ℕ) (c : Processor) (seen : Seen) (did : Result (Act × (Cpu × Contents)) exec.Refusal) → slice_get s.processors p ≡ Some c
    → IsWaited (program_of c) (cpu_of c) (contents_of s.shape c.buffer s.memory) → exec_of (program_of c) (cpu_of c) (contents_of s.shape [] s.memory) ≡ did
    → unwaiting_with s p c did ≡ Ok (seen, t) → IsUnwaitedStep p s t seen
unwaited_done s t p c seen (Ok done) there w is e =
    let now : Processor = record c { place = done.1.0.place; regs = done.1.0.regs; trap = done.1.0.trap } in
    let parts = answer_of (Ran p c.place done.0) seen (turned s p (now, done.1.1.memory)) t e in
    let memory : t.memory ≡ done.1.1.memory = ap (λ (x : State). x.memory) parts.1 in
    let empty = contents_of s.shape [] s.memory in
    let fence = waited_shows (program_of c) (cpu_of c) done.1.0 (contents_of s.shape c.buffer s.memory) empty done.1.1 done.0 refl w is in
    let shown = acts_show_all (program_of c) (cpu_of c) done.1.0 empty done.1.1 done.0 is in
    let left : done.1.1 ≡ contents_of s.shape [] t.memory =
    fence_like_leaves s.shape s.memory done.0 done.1.1 fence shown ∙ ap (λ (m : Memory). contents_of s.shape [] m) (sym memory) in
    record {
      before = c;
      after = now;
      act = done.0;
      instr = w.instr;
      there = there;
      next = w.there;
      ran =
          subst (λ (x : Contents). IsRunOf w.instr (cpu_of c) empty done.0 done.1.0 x) left
          (run_only (program_of c) (cpu_of c) done.1.0 empty done.1.1 done.0 w.instr w.there is);
      rest = refl;
      shown = parts.0;
      alone = turned_only s t p now done.1.1.memory parts.1;
    }
unwaited_done s t p c seen (Err refusal) there w is e = absurd (cc)

pub unwaited_step : (s t : State) (p : ℕ) (seen : Seen) → step_of s (Exec p) ≡ Err BufferNotEmpty → loose_step_of s (Exec p) ≡ Ok (seen, t) → IsUnwaitedStep p s t seen
unwaited_step s t p seen e passed =
    let w = waits_there s p e in
    unwaited_done s t p w.cpu seen (exec_of (program_of w.cpu) (cpu_of w.cpu) (contents_of s.shape [] s.memory)) w.there w.waited refl
    (sym (ap (exec_unwaiting_found s p) w.there) ∙ sym (ap (unordered s (Exec p)) e) ∙ passed)

pub unwaited_always : (s t : State) (p : ℕ) (seen : Seen) → step_of s (Exec p) ≡ Err BufferNotEmpty → IsUnwaitedStep p s t seen → loose_step_of s (Exec p) ≡ Ok (seen, t)
unwaited_always s t p seen e x =
    let c = x.before in
    let did = run_always (program_of c) (cpu_of c) (cpu_of x.after) (contents_of s.shape [] s.memory) (contents_of s.shape [] t.memory) x.act x.instr x.next x.ran in
    let now : Processor = record c { place = x.after.place; regs = x.after.regs; trap = x.after.trap } in
    let whole : turned s p (now, t.memory) ≡ t = ap (λ (d : Processor). turned s p (d, t.memory)) (sym x.rest) ∙ turned_is s t p x.after x.alone in
    ap (unordered s (Exec p)) e ∙ ap (exec_unwaiting_found s p) x.there ∙ ap (unwaiting_with s p c) did ∙ (λ k. Ok (sym x.shown k, whole k))

-- an entry that is held

unheld_done : (s t : State) (p i : ℕ) (c : Processor) (entry : Entry) (seen : Seen) (received : Result Memory PendingFault) → slice_get s.processors p ≡ Some c
    → slice_get c.buffer i ≡ Some entry → receive_of s.memory entry ≡ received → unheld_with s p i c entry received ≡ Ok (seen, t) → IsUnheldStep p i s t seen
unheld_done s t p i c entry seen (Ok after) there at is e =
    let now : Processor = record c { buffer = remove c.buffer i } in
    let parts = answer_of (Left p i entry) seen (turned s p (now, after)) t e in
    record {
      before = c;
      after = now;
      entry = entry;
      earlier = take i c.buffer;
      later = drop (suc i) c.buffer;
      there = there;
      whole = split_at c.buffer i entry at;
      place = place_of c.buffer i entry at;
      rest = refl;
      arrived = is ∙ ap (λ (m : Memory). Ok m) (sym (ap (λ (x : State). x.memory) parts.1));
      shown = parts.0;
      alone = turned_only s t p now after parts.1;
    }
unheld_done s t p i c entry seen (Err fault) there at is e = absurd (cc)

pub unheld_step : (s t : State) (p i holder : ℕ) (seen : Seen) → step_of s (Drain p i) ≡ Err (Held holder) → loose_step_of s (Drain p i) ≡ Ok (seen, t) → IsUnheldStep p i s t seen
unheld_step s t p i holder seen e passed =
    let h = held_drain s p i holder e in
    unheld_done s t p i h.0 h.1 seen (receive_of s.memory h.1) h.2 h.3 refl
    (sym (ap (drain_entry_found s p i h.0) h.3) ∙ sym (ap (drain_unheld_found s p i) h.2) ∙ sym (ap (unordered s (Drain p i)) e) ∙ passed)

-- what stays where an entry leaves
others : (buffer earlier later : List Entry) (i : ℕ) (entry : Entry) → buffer ≡ earlier ++ entry ∷ later → length earlier ≡ i → remove buffer i ≡ earlier ++ later
others buffer earlier later i entry whole at =
    let front : take i buffer ≡ earlier = rw (whole, ← at) (take-append_seam earlier (entry ∷ later)) in
    rw (front, whole, ← at, drop_past_seam earlier later entry) refl

pub unheld_always : (s t : State) (p i holder : ℕ) (seen : Seen) → step_of s (Drain p i) ≡ Err (Held holder) → IsUnheldStep p i s t seen → loose_step_of s (Drain p i) ≡ Ok (seen, t)
unheld_always s t p i holder seen e x =
    let c = x.before in
    let at = at_split c.buffer x.earlier x.later i x.entry x.whole x.place in
    let left = others c.buffer x.earlier x.later i x.entry x.whole x.place in
    let now : Processor = record c { buffer = remove c.buffer i } in
    let whole : turned s p (now, t.memory) ≡ t =
    ap (λ (b : List Entry). turned s p (record c { buffer = b }, t.memory)) left
    ∙ ap (λ (d : Processor). turned s p (d, t.memory)) (sym x.rest)
    ∙ turned_is s t p x.after x.alone in
    ap (unordered s (Drain p i)) e
    ∙ ap (drain_unheld_found s p i) x.there
    ∙ ap (drain_entry_found s p i c) at
    ∙ ap (unheld_with s p i c x.entry) x.arrived
    ∙ (λ k. Ok (sym x.shown k, whole k))
