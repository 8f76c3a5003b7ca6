-- What is named, buffered and pending keeps to the shape.
use Rattle.std.proofs.Common.{◌≡◌, ℕ, zero, suc, ◌<◌, Bool, true, Option, Some, None, Result, Ok, Err, List, [], ◌∷◌, ◌++◌, map, length, refl, sym, ap, ◌∙◌, subst, inl, inr}
use Rattle.std.specs.Prelude.{◌&&◌, slice_set, nat_le, MatchOption}
use Rattle.std.specs.List.{list_all}
use Rattle.std.proofs.lemmas.Bool.{cases_eq, and_parts}
use Rattle.std.proofs.lemmas.List.Folds.{list_all-append}
use Rattle.lines_layout.specs.Lines.{has_word, line_of, word_at}
use Rattle.lines_layout.proofs.Addresses.{word_found}
use Rattle.lines_layout.proofs.WordsOfShapes.{line_is_there}
use Rattle.isa.specs.declared.instr.Instr.{Instr}
use Rattle.isa.specs.declared.instr.Instr.TheVariants as instrs
use Rattle.isa.specs.declared.instr.Computation.TheVariants.{Add, Compare}
use Rattle.isa.specs.declared.instr.FenceKind.TheVariants.{Mfence, Sfence}
use Rattle.isa.specs.declared.instr.FlushKind.TheVariants.{Clflush, Clflushopt, Clwb}
use Rattle.isa.specs.declared.instr.JumpKind.TheVariants.{Always, IfZero, IfNotZero}
use Rattle.isa.specs.declared.instr.LockedOperation.TheVariants.{Exchange, ExchangeAdd, CompareExchange}
use Rattle.isa.specs.declared.instr.Source.TheVariants.{Register, Number}
use Rattle.isa.specs.declared.instr.Access.{Access}
use Rattle.isa.specs.declared.instr.Access.TheVariants as accesses
use Rattle.isa.specs.declared.programs.Programs.{Programs}
use Rattle.isa.specs.declared.register.Reg.TheVariants.{Rax}
use Rattle.isa.specs.Loadables.{max_processors, runs_on, is_loadable}
use Rattle.isa.specs.Operands.{address_meant}
use Rattle.isa.specs.Registers.{reg}
use Rattle.isa.specs.Objects.{Object, shape}
use Rattle.outcomes.specs.Outcomes.{◌>>=◌, refused_as}
use Rattle.outcomes.proofs.PartsOfOutcomes.{answer_of}
use Rattle.store_buffer.specs.declared.entry.Entry.{Entry}
use Rattle.store_buffer.specs.declared.entry.Entry.TheVariants as entries
use Rattle.persist_buffer.specs.declared.entry.PendingEntry.{PendingEntry}
use Rattle.persist_buffer.specs.declared.entry.PendingEntry.TheVariants.{Write, Marker}
use Rattle.persist_buffer.specs.State.{Memory}
use Rattle.persist_buffer.specs.Memories.{coherent}
use Rattle.processor.specs.declared.act.Act.{Act}
use Rattle.processor.specs.declared.refusal.Refusal as exec
use Rattle.processor.specs.declared.refusal.Refusal.TheVariants.{Halted}
use Rattle.processor.specs.Contents.{Contents}
use Rattle.processor.specs.Cpus.{Cpu}
use Rattle.processor.specs.Acts.{IsDelayed, IsWritten}
use Rattle.processor.specs.Executions.{next_instruction, exec_of}
use Rattle.processor.specs.Instructions.{IsAccessTo, Traps, IsRunOf}
use Rattle.processor.proofs.InstructionsRunAsTold.{Outcome, exec_with, run_only}
use Rattle.processor.proofs.PlacesStayWithin.{all_at}
use Rattle.machine.specs.declared.refusal.Refusal.{Refusal}
use Rattle.machine.specs.declared.step.Step.{Step}
use Rattle.machine.specs.declared.step.Step.TheVariants.{Exec, Drain, Persist, Settle, Crash}
use Rattle.machine.specs.declared.step.Seen.{Seen}
use Rattle.machine.specs.State.{Processor, State}
use Rattle.machine.specs.Refusals.{of_exec}
use Rattle.machine.specs.Objects.{opening_processor, opening}
use Rattle.machine.specs.Processors.{program_of, programs_of, cpu_of, contents_of, with_cpu, restart_of, receive_of}
use Rattle.machine.specs.Programs.{is_buffered_in, is_pending_in, is_on, IsWithinShape}
use Rattle.machine.specs.Steps.{End, end_after, step_of, run_of}
use Rattle.machine.proofs.DrainingIsASplit.{write_arrives, flush_arrives, optimized_flush_arrives, fence_disappears}
use Rattle.machine.proofs.ProcessorSteps.{exec_only, drain_only}
use Rattle.machine.proofs.PersistAndSettleStepsSplit.{persist_only, settle_only}
use Rattle.machine.proofs.CrashKeepsWhatIsPersisted.{processors_after, memory_after}
use Rattle.machine.proofs.RunIsAPrefix.{step_shape}

-- ---- lists of which all pass

both : (a b : Bool) → a ≡ true → b ≡ true → (a && b) ≡ true
both a b x y = rw (x, y) refl

one_more : {A : Type 0} (p : A → Bool) (xs : List A) (x : A) → list_all p xs ≡ true → p x ≡ true → list_all p (xs ++ x ∷ []) ≡ true
one_more p xs x all h = list_all-append p xs (x ∷ []) ∙ rw (all, h) refl

-- the one at which a list is split, and the others
split_passes : {A : Type 0} (p : A → Bool) (before : List A) (x : A) (later : List A) → list_all p (before ++ x ∷ later) ≡ true
    → (p x ≡ true) × (list_all p (before ++ later) ≡ true)
split_passes p before x later all =
    let parts = and_parts (list_all p before) (list_all p (x ∷ later)) (sym (list_all-append p before (x ∷ later)) ∙ all) in
    let rest = and_parts (p x) (list_all p later) parts.1 in
    (rest.0, list_all-append p before later ∙ both (list_all p before) (list_all p later) parts.0 rest.1)

set_passes : {A : Type 0} (p : A → Bool) (xs : List A) (i : ℕ) (x : A) → list_all p xs ≡ true → p x ≡ true → list_all p (slice_set xs i x) ≡ true
set_passes p [] i x all h = refl
set_passes p (y ∷ xs) zero x all h = both (p x) (list_all p xs) h ((and_parts (p y) (list_all p xs) all).1)
set_passes p (y ∷ xs) (suc i) x all h =
    let parts = and_parts (p y) (list_all p xs) all in
    both (p y) (list_all p (slice_set xs i x)) parts.0 (set_passes p xs i x parts.1 h)

-- ---- what an instruction leaves

-- a store buffer and a pending list without a write of a word that the shape lacks
abbrev IsIn : List ℕ → Contents → Type 0
IsIn shape s = (list_all (is_buffered_in shape) s.buffer ≡ true) × (list_all (is_pending_in shape) s.memory.pending ≡ true)

module _ (shape : List ℕ) (s t : Contents) (is_in : IsIn shape s) where
  still_in : t ≡ s → IsIn shape t
  still_in e = subst (IsIn shape) (sym e) is_in

  delayed_in : (entry : Entry) → is_buffered_in shape entry ≡ true → IsDelayed s t entry → IsIn shape t
  delayed_in entry h d = (
    ap (list_all (is_buffered_in shape)) d.buffer ∙ one_more (is_buffered_in shape) s.buffer entry is_in.0 h,
    ap (λ (m : Memory). list_all (is_pending_in shape) m.pending) d.memory ∙ is_in.1,
  )

  written_in : (word value : ℕ) → has_word shape word ≡ true → IsWritten s t word value → IsIn shape t
  written_in word value h w = (
    ap (list_all (is_buffered_in shape)) w.buffer ∙ is_in.0,
    ap (list_all (is_pending_in shape)) w.pending ∙ one_more (is_pending_in shape) s.memory.pending (Write word value) is_in.1 h,
  )

  access_in : (word : ℕ) (access : Access) (c d : Cpu) (act : Act) → has_word shape word ≡ true → IsAccessTo word access c s act d t → IsIn shape t
  access_in word (accesses.Load r) c d act h x = still_in x.2
  access_in word (accesses.Store (Register r)) c d act h x = delayed_in _ h x.2
  access_in word (accesses.Store (Number n)) c d act h x = delayed_in _ h x.2
  access_in word (accesses.Locked Exchange r) c d act h x = written_in _ _ h x.3
  access_in word (accesses.Locked ExchangeAdd r) c d act h x = written_in _ _ h x.3
  access_in word (accesses.Locked CompareExchange r) c d act h x =
      elim (cases_eq (reg c.regs Rax) (coherent s.memory word)) [ inl same ↦ written_in _ _ h ((x.1 same).2) | inr other ↦ still_in ((x.2 other).2) ]
  access_in word (accesses.Flush Clflush) c d act h x = delayed_in _ refl x.2
  access_in word (accesses.Flush Clflushopt) c d act h x = delayed_in _ refl x.2
  access_in word (accesses.Flush Clwb) c d act h x = delayed_in _ refl x.2

  memory_in : (access : Access) (address : ℕ) (c d : Cpu) (act : Act) (o : Option ℕ) → word_at shape address ≡ o
      → MatchOption o (Traps c s act d t address) (λ word. IsAccessTo word access c s act d t) → IsIn shape t
  memory_in access address c d act None none x = still_in x.2
  memory_in access address c d act (Some word) there x = access_in word access c d act (word_found shape address word there).0 x

  left_in : (instr : Instr) (c d : Cpu) (act : Act) → s.shape ≡ shape → IsRunOf instr c s act d t → IsIn shape t
  left_in (instrs.Set r (Number value)) c d act h x = still_in x.2
  left_in (instrs.Set r (Register other)) c d act h x = still_in x.2
  left_in (instrs.Compute Add r value) c d act h x = still_in x.2
  left_in (instrs.Compute Compare r value) c d act h x = still_in x.2
  left_in (instrs.Jump Always target) c d act h x = still_in x.2
  left_in (instrs.Jump IfZero target) c d act h x = still_in x.3
  left_in (instrs.Jump IfNotZero target) c d act h x = still_in x.3
  left_in instrs.Nop c d act h x = still_in x.2
  left_in (instrs.Memory access operand) c d act h x =
      memory_in access (address_meant c.regs operand) c d act (word_at s.shape (address_meant c.regs operand)) (ap (λ (lines : List ℕ). word_at lines (address_meant c.regs operand)) (sym h)) x
  left_in (instrs.Fence Mfence) c d act h x = still_in x.3
  left_in (instrs.Fence Sfence) c d act h x = delayed_in _ refl x.2

  done_in : (program : List Instr) (c d : Cpu) (act : Act) (there : Option Instr) → next_instruction program c ≡ there
      → s.shape ≡ shape → exec_of program c s ≡ Ok (act, (d, t)) → IsIn shape t
  done_in program c d act None is h e =
      let refused : ◌≡◌ {A = Outcome} (Err Halted) (Ok (act, (d, t))) = sym (ap (exec_with c s) is) ∙ e in
      absurd (cc)
  done_in program c d act (Some instr) is h e = left_in instr c d act h (run_only program c d s t act instr is e)

-- ---- what a processor leaves

-- what running comes to, where what the instruction does is known
abbrev ran : Processor → Result (Act × (Cpu × Contents)) exec.Refusal → Result (Act × (Processor × Memory)) Refusal
ran c did = refused_as of_exec did >>= λ done. Ok (done.0, (with_cpu c done.1.0 done.1.1, done.1.1.memory))

-- a processor and a memory that keep to the shape
abbrev AreOn : List ℕ → Processor × Memory → Type 0
AreOn shape p = (is_on shape p.0 ≡ true) × (list_all (is_pending_in shape) p.1.pending ≡ true)

ran_on : (shape : List ℕ) (c : Processor) (m : Memory) (p : Processor × Memory) (act : Act) (did : Result (Act × (Cpu × Contents)) exec.Refusal)
    → exec_of (program_of c) (cpu_of c) (contents_of shape c.buffer m) ≡ did → ran c did ≡ Ok (act, p) → AreOn shape (c, m) → AreOn shape p
ran_on shape c m p act (Ok done) is e on =
    let parts = answer_of done.0 act (with_cpu c done.1.0 done.1.1, done.1.1.memory) p e in
    let of_c = and_parts (runs_on shape (programs_of c)) (list_all (is_buffered_in shape) c.buffer) on.0 in
    let after = done_in shape (contents_of shape c.buffer m) done.1.1 (of_c.1, on.1) (program_of c) (cpu_of c) done.1.0 done.0 (next_instruction (program_of c) (cpu_of c)) refl refl is in
    let now : AreOn shape (with_cpu c done.1.0 done.1.1, done.1.1.memory) = (both (runs_on shape (programs_of c)) (list_all (is_buffered_in shape) done.1.1.buffer) of_c.0 after.0, after.1) in
    subst (AreOn shape) (sym parts.1) now
ran_on shape c m p act (Err refusal) is e on = absurd (cc)

-- ---- what leaves a store buffer

received_in : (shape : List ℕ) (m n : Memory) (entry : Entry) → is_buffered_in shape entry ≡ true → list_all (is_pending_in shape) m.pending ≡ true
    → receive_of m entry ≡ Ok n → list_all (is_pending_in shape) n.pending ≡ true
received_in shape m n (entries.Write word value) h all e =
    ap (list_all (is_pending_in shape)) ((write_arrives m n word value e).pending) ∙ one_more (is_pending_in shape) m.pending (Write word value) all h
received_in shape m n (entries.Flush line) h all e =
    ap (list_all (is_pending_in shape)) ((flush_arrives m n line e).pending) ∙ one_more (is_pending_in shape) m.pending (Marker line) all refl
received_in shape m n (entries.FlushOpt line) h all e =
    ap (list_all (is_pending_in shape)) ((optimized_flush_arrives m n line e).pending) ∙ one_more (is_pending_in shape) m.pending (Marker line) all refl
received_in shape m n entries.Sfence h all e = ap (λ (x : Memory). list_all (is_pending_in shape) x.pending) (fence_disappears m n e) ∙ all

-- ---- steps

-- one processor changes, and it and the memory keep to the shape
turn_within : (s t : State) (p : ℕ) (after : Processor) → IsWithinShape s → t.shape ≡ s.shape → t.processors ≡ slice_set s.processors p after
    → AreOn s.shape (after, t.memory) → IsWithinShape t
turn_within s t p after within shape processors on = record {
  processors = rw (shape, processors) (set_passes (is_on s.shape) s.processors p after within.processors on.0);
  pending = rw shape on.1;
}

-- the pending list alone changes
memory_within : (s t : State) → IsWithinShape s → t.shape ≡ s.shape → t.processors ≡ s.processors → list_all (is_pending_in s.shape) t.memory.pending ≡ true → IsWithinShape t
memory_within s t within shape processors pending = record {
  processors = rw (shape, processors) within.processors;
  pending = rw shape pending;
}

restarted_on : (shape : List ℕ) (cpus : List Processor) → list_all (is_on shape) cpus ≡ true → list_all (is_on shape) (map restart_of cpus) ≡ true
restarted_on shape [] all = refl
restarted_on shape (c ∷ cpus) all =
    let parts = and_parts (is_on shape c) (list_all (is_on shape) cpus) all in
    let of_c = and_parts (runs_on shape (programs_of c)) (list_all (is_buffered_in shape) c.buffer) parts.0 in
    both (is_on shape (restart_of c)) (list_all (is_on shape) (map restart_of cpus)) (both (runs_on shape (programs_of c)) true of_c.0 refl) (restarted_on shape cpus parts.1)

pub step_within : (s t : State) (step : Step) (seen : Seen) → IsWithinShape s → step_of s step ≡ Ok (seen, t) → IsWithinShape t
step_within s t (Exec p) seen within e =
    let x = exec_only s t p seen e in
    let on = all_at (is_on s.shape) s.processors p x.before within.processors x.there in
    turn_within s t p x.after within x.alone.shape x.alone.processors
    (ran_on s.shape x.before s.memory (x.after, t.memory) x.act (exec_of (program_of x.before) (cpu_of x.before) (contents_of s.shape x.before.buffer s.memory)) refl x.ran (on, within.pending))
step_within s t (Drain p i) seen within e =
    let x = drain_only s t p i seen e in
    let on = all_at (is_on s.shape) s.processors p x.before within.processors x.there in
    let of_c = and_parts (runs_on s.shape (programs_of x.before)) (list_all (is_buffered_in s.shape) x.before.buffer) on in
    let split = split_passes (is_buffered_in s.shape) x.earlier x.entry x.later (ap (list_all (is_buffered_in s.shape)) (sym x.split.whole) ∙ of_c.1) in
    let after : is_on s.shape x.after ≡ true =
    ap (is_on s.shape) x.split.rest ∙ both (runs_on s.shape (programs_of x.before)) (list_all (is_buffered_in s.shape) (x.earlier ++ x.later)) of_c.0 split.1 in
    turn_within s t p x.after within x.alone.shape x.alone.processors (after, received_in s.shape s.memory t.memory x.entry split.0 within.pending x.arrived)
step_within s t (Persist line) seen within e =
    let x = persist_only s t line seen e in
    let rest = split_passes (is_pending_in s.shape) x.before (Write x.word x.value) x.later (ap (list_all (is_pending_in s.shape)) (sym x.split.whole) ∙ within.pending) in
    memory_within s t within x.alone.shape x.alone.processors (ap (list_all (is_pending_in s.shape)) x.split.rest ∙ rest.1)
step_within s t Settle seen within e =
    let x = settle_only s t seen e in
    let rest = split_passes (is_pending_in s.shape) x.before (Marker x.line) x.later (ap (list_all (is_pending_in s.shape)) (sym x.split.whole) ∙ within.pending) in
    memory_within s t within x.alone.shape x.alone.processors (ap (list_all (is_pending_in s.shape)) x.split.rest ∙ rest.1)
step_within s t Crash seen within e = record {
  processors = rw (step_shape s t Crash seen e, processors_after s t seen e) (restarted_on s.shape s.processors within.processors);
  pending = rw (memory_after s t seen e) refl;
}

opening_on : (shape : List ℕ) (all : List Programs) → list_all (runs_on shape) all ≡ true → list_all (is_on shape) (map opening_processor all) ≡ true
opening_on shape [] h = refl
opening_on shape (programs ∷ all) h =
    let parts = and_parts (runs_on shape programs) (list_all (runs_on shape) all) h in
    both (is_on shape (opening_processor programs)) (list_all (is_on shape) (map opening_processor all)) (both (runs_on shape programs) true parts.0 refl) (opening_on shape all parts.1)

pub opening_within : (o : Object) → is_loadable (shape o) o.processors ≡ true → IsWithinShape (opening o)
opening_within o h =
    let parts = and_parts (nat_le (length o.processors) max_processors) (list_all (runs_on (shape o)) o.processors) h in
    record { processors = opening_on (shape o) o.processors parts.1; pending = refl }

within_on : (step : Step) (s : State) (r : Result (Seen × State) Refusal) (rest : State → End) → step_of s step ≡ r → IsWithinShape s
    → ((t : State) → IsWithinShape t → IsWithinShape (rest t).state) → IsWithinShape (end_after s r rest).state
within_on step s (Ok done) rest is within each = each done.1 (step_within s done.1 step done.0 within is)
within_on step s (Err refusal) rest is within each = within

pub run_within_shape : (steps : List Step) (s : State) → IsWithinShape s → IsWithinShape (run_of steps s).state
run_within_shape [] s within = within
run_within_shape (step ∷ steps) s within = within_on step s (step_of s step) (run_of steps) refl within (run_within_shape steps)

pub pending_word : (s : State) (word value : ℕ) (before later : List PendingEntry) → IsWithinShape s → s.memory.pending ≡ before ++ Write word value ∷ later
    → (has_word s.shape word ≡ true) × (line_of word < length s.shape)
pending_word s word value before later within whole =
    let there = (split_passes (is_pending_in s.shape) before (Write word value) later (ap (list_all (is_pending_in s.shape)) (sym whole) ∙ within.pending)).0 in
    (there, line_is_there s.shape word there)
