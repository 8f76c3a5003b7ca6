-- A state in which a crash alone is accepted is an end.
use Rattle.std.proofs.Common.{◌≡◌, ℕ, suc, ◌+◌, ◌<◌, Bool, true, false, Option, Some, None, Result, Ok, Err, List, [], ◌∷◌, length, refl, ap, ◌∙◌, true≢false}
use Rattle.std.specs.Prelude.{◌==◌, if◌then◌else◌, is_none, slice_get, slice_set}
use Rattle.std.specs.List.{list_all}
use Rattle.std.specs.Option.{option_map_or}
use Rattle.lines_layout.specs.Lines.{word_at}
use Rattle.isa.specs.declared.instr.Access.{Access}
use Rattle.isa.specs.declared.instr.Access.TheVariants as accesses
use Rattle.isa.specs.declared.instr.FenceKind.TheVariants.{Mfence, Sfence}
use Rattle.isa.specs.declared.instr.Instr.{Instr}
use Rattle.isa.specs.declared.instr.Instr.TheVariants as instrs
use Rattle.isa.specs.declared.register.Regs.{Regs}
use Rattle.isa.specs.Operands.{address_meant}
use Rattle.store_buffer.specs.declared.entry.Entry.{Entry}
use Rattle.store_buffer.specs.declared.entry.Entry.TheVariants as entries
use Rattle.persist_buffer.specs.declared.entry.PendingEntry.{PendingEntry}
use Rattle.persist_buffer.specs.declared.entry.PendingEntry.TheVariants.{Write, Marker}
use Rattle.persist_buffer.specs.Memories.{coherent, write_room_of}
use Rattle.persist_buffer.specs.State.{Memory}
use Rattle.outcomes.specs.Outcomes.{◌>>=◌, refused_as, required, tested}
use Rattle.processor.specs.declared.act.Act.{Act}
use Rattle.processor.specs.declared.need.Need.{Need}
use Rattle.processor.specs.declared.need.Need.TheVariants as needs
use Rattle.processor.specs.declared.refusal.Refusal as exec
use Rattle.processor.specs.declared.refusal.Refusal.TheVariants as execs
use Rattle.processor.specs.Accesses.{is_locked, need_of}
use Rattle.processor.specs.Contents.{Contents}
use Rattle.processor.specs.Cpus.{Cpu}
use Rattle.processor.specs.Executions.{exec_of, next_instruction, ready_need, room_for, waited}
use Rattle.processor.proofs.RoomDecides.{room_decides}
use Rattle.machine.specs.declared.step.Seen.{Seen}
use Rattle.machine.specs.declared.step.Seen.TheVariants.{Left, Ran}
use Rattle.machine.specs.declared.step.Step.{Step}
use Rattle.machine.specs.declared.step.Step.TheVariants.{Exec, Drain, Crash}
use Rattle.machine.specs.Limits.{max_turns}
use Rattle.machine.specs.Processors.{contents_of, cpu_of, halted, program_of, receive_of, run_by, with_cpu}
use Rattle.machine.specs.Refusals.{of_exec}
use Rattle.machine.specs.State.{Processor, State}
use Rattle.machine.specs.Steps.{step_of}
use Rattle.machine.proofs.ProcessorSteps.{drain_always, exec_always}
use Rattle.images.proofs.StepsReach.{lines_within}
use Rattle.explore.specs.Ends.{IsEnd, has_ended}
use Rattle.explore.specs.Falls.{step_for}
use Rattle.explore.specs.Sound.{IsSound}
use Rattle.explore.proofs.FallsAreSteps.{left_by}

-- no step but a crash is accepted
abbrev IsStill : State → Type 0
IsStill s = (step : Step) (seen : Seen) (t : State) → step_of s step ≡ Ok (seen, t) → step ≡ Crash

-- ---- what is pending can leave

no_crash : (e : PendingEntry) → step_for e ≡ Crash → ⊥
no_crash (Write word value) is = absurd (cc)
no_crash (Marker line) is = absurd (cc)

nothing_left : (s : State) (es : List PendingEntry) → IsSound s → s.turns < max_turns → IsStill s → s.memory.pending ≡ es → es ≡ []
nothing_left s [] sound turns still is = refl
nothing_left s (e ∷ es) sound turns still is = absurd (no_crash e (still (step_for e) _ _ (left_by s [] es e (lines_within s sound.within) turns is tt)))

-- ---- what is buffered can leave, where nothing is pending

abbrev clear : List ℕ → Memory
clear persisted = record { pending = []; persisted = persisted }

received : (persisted : List ℕ) (e : Entry) → (n : Memory) × (receive_of (clear persisted) e ≡ Ok n)
received persisted (entries.Write word value) = (record { pending = Write word value ∷ []; persisted = persisted }, refl)
received persisted (entries.Flush line) = (record { pending = Marker line ∷ []; persisted = persisted }, refl)
received persisted (entries.FlushOpt line) = (record { pending = Marker line ∷ []; persisted = persisted }, refl)
received persisted entries.Sfence = (clear persisted, refl)

-- ---- an instruction runs, where nothing is buffered or pending

module _ (shape persisted : List ℕ) where
  abbrev empty : Contents
  empty = record { shape = shape; buffer = []; memory = clear persisted }

  has_room : (need : Need) → room_for need empty ≡ Ok tt
  has_room needs.Nothing = refl
  has_room needs.Entry = refl
  has_room (needs.Write word) = refl
  has_room (needs.WriteIf word value) = by (value == coherent (clear persisted) word)
    where
      by : (b : Bool) → (if b then refused_as (λ full. execs.LineFull) (write_room_of (clear persisted) word) else Ok tt) ≡ Ok tt
      by true = refl
      by false = refl

  at_word : (access : Access) (word : ℕ) (regs : Regs) → tested (waited (is_locked access) true (Ok (need_of access word regs)) >>= λ need. room_for need empty) ≡ Ok tt
  at_word (accesses.Load r) word regs = refl
  at_word (accesses.Store source) word regs = refl
  at_word (accesses.Flush kind) word regs = refl
  at_word (accesses.Locked operation r) word regs = ap tested (has_room (need_of (accesses.Locked operation r) word regs))

  ready : (instr : Instr) (regs : Regs) → tested (ready_need shape regs true instr >>= λ need. room_for need empty) ≡ Ok tt
  ready (instrs.Memory access operand) regs = by (word_at shape (address_meant regs operand))
    where
      by : (o : Option ℕ) → tested (option_map_or (λ word. waited (is_locked access) true (Ok (need_of access word regs))) o (Ok needs.Nothing) >>= λ need. room_for need empty) ≡ Ok tt
      by None = refl
      by (Some word) = at_word access word regs
  ready (instrs.Fence Mfence) regs = refl
  ready (instrs.Fence Sfence) regs = refl
  ready (instrs.Set r source) regs = refl
  ready (instrs.Compute operation r number) regs = refl
  ready (instrs.Jump kind target) regs = refl
  ready instrs.Nop regs = refl

  abbrev Outcome : Type 0
  Outcome = Result (Act × (Cpu × Contents)) exec.Refusal

  made : (r : Outcome) → tested r ≡ Ok tt → (x : Act × (Cpu × Contents)) × (r ≡ Ok x)
  made (Ok x) e = (x, refl)
  made (Err refusal) e = absurd (cc)

  ready_at : (program : List Instr) (c : Cpu) (found : Option Instr) → next_instruction program c ≡ found → is_none found ≡ false → (x : Act × (Cpu × Contents)) × (exec_of program c empty ≡ Ok x)
  ready_at program c None is some = absurd (true≢false some)
  ready_at program c (Some instr) is some =
      made (exec_of program c empty) (room_decides program c empty
      ∙ ap (λ (o : Option Instr). tested ((required execs.Halted o >>= λ i. ready_need shape c.regs true i) >>= λ need. room_for need empty)) is ∙ ready instr c.regs)

  runs_on : (c : Processor) → c.buffer ≡ [] → halted c ≡ false → (x : Act × (Processor × Memory)) × (run_by shape c (clear persisted) ≡ Ok x)
  runs_on c none goes =
      let (x, is) = ready_at (program_of c) (cpu_of c) (next_instruction (program_of c) (cpu_of c)) refl goes in
      let same : exec_of (program_of c) (cpu_of c) (contents_of shape c.buffer (clear persisted)) ≡ Ok x = ap (λ (b : List Entry). exec_of (program_of c) (cpu_of c) (contents_of shape b (clear persisted))) none ∙ is in
      ((x.0, (with_cpu c x.1.0 x.1.1, x.1.1.memory)), ap (λ (r : Outcome). refused_as of_exec r >>= λ done. Ok (done.0, (with_cpu c done.1.0 done.1.1, done.1.1.memory))) same)

-- ---- a processor that can do nothing has ended

buffer_left : (s : State) (p : ℕ) (c : Processor) (b : List Entry) → s.turns < max_turns → IsStill s → s.memory ≡ clear s.memory.persisted → slice_get s.processors p ≡ Some c → c.buffer ≡ b → b ≡ []
buffer_left s p c [] turns still none there is = refl
buffer_left s p c (e ∷ later) turns still none there is =
    let got = received s.memory.persisted e in
    let now : Processor = record c { buffer = later } in
    let t : State = record s { turns = s.turns + 1; processors = slice_set s.processors p now; memory = got.0 } in
    let did : step_of s (Drain p 0) ≡ Ok (Left p 0 e, t) = drain_always s t p 0 (Left p 0 e) (record {
      before = c;
      after = now;
      entry = e;
      earlier = [];
      later = later;
      turn_left = turns;
      there = there;
      split = record { whole = is; place = refl; free = refl; rest = refl };
      arrived = ap (λ (m : Memory). receive_of m e) none ∙ got.1;
      shown = refl;
      alone = record { turns = refl; crashes = refl; shape = refl; processors = refl };
    }) in
    let clash : Drain p 0 ≡ Crash = still (Drain p 0) (Left p 0 e) t did in
    absurd (cc)

run_left : (s : State) (p : ℕ) (c : Processor) (b : Bool) → s.turns < max_turns → IsStill s → s.memory ≡ clear s.memory.persisted → slice_get s.processors p ≡ Some c → c.buffer ≡ [] → halted c ≡ b → b ≡ true
run_left s p c true turns still none there empty is = refl
run_left s p c false turns still none there empty is =
    let (x, ran) = runs_on s.shape s.memory.persisted c empty is in
    let t : State = record s { turns = s.turns + 1; processors = slice_set s.processors p x.1.0; memory = x.1.1 } in
    let did : step_of s (Exec p) ≡ Ok (Ran p c.place x.0, t) = exec_always s t p (Ran p c.place x.0) (record {
      before = c;
      after = x.1.0;
      act = x.0;
      turn_left = turns;
      there = there;
      ran = ap (λ (m : Memory). run_by s.shape c m) none ∙ ran;
      shown = refl;
      alone = record { turns = refl; crashes = refl; shape = refl; processors = refl };
    }) in
    let clash : Exec p ≡ Crash = still (Exec p) (Ran p c.place x.0) t did in
    absurd (cc)

all_by_place : (f : Processor → Bool) (cs : List Processor) → ((p : ℕ) (c : Processor) → slice_get cs p ≡ Some c → f c ≡ true) → list_all f cs ≡ true
all_by_place f [] each = refl
all_by_place f (c ∷ cs) each = rw (each 0 c refl) (all_by_place f cs (λ p d there. each (suc p) d there))

pub still_is_end : (s : State) → IsSound s → s.turns < max_turns → ((step : Step) (seen : Seen) (t : State) → step_of s step ≡ Ok (seen, t) → step ≡ Crash) → IsEnd s
still_is_end s sound turns still =
    let none : s.memory.pending ≡ [] = nothing_left s s.memory.pending sound turns still refl in
    let memory : s.memory ≡ clear s.memory.persisted = λ k. record { pending = none k; persisted = s.memory.persisted } in
    record {
      processors = all_by_place has_ended s.processors (λ p c there.
          let empty : c.buffer ≡ [] = buffer_left s p c c.buffer turns still memory there refl in
          let stops : halted c ≡ true = run_left s p c (halted c) turns still memory there empty refl in
          let long : (length c.buffer == 0) ≡ true = ap (λ (b : List Entry). length b == 0) empty in
          rw (stops, long) refl);
      pending = none;
    }
