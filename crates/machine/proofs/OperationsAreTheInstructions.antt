-- An instruction that is refused since its store buffer is not empty is a fence or a locked operation, and shows so. What an
-- instruction shows is an operation of its kind.
use Rattle.std.proofs.Common.{◌≡◌, ◌≢◌, ℕ, ◌<◌, Option, Some, None, Result, Ok, Err, List, [], ◌∷◌, length, refl, sym, ◌∙◌, ap, subst, inl, inr, arith}
use Rattle.std.specs.Prelude.{◌⊎◌, MatchOption}
use Rattle.std.specs.Option.{option_map}
use Rattle.std.proofs.lemmas.Bool.{cases_eq}
use Rattle.outcomes.specs.Outcomes.{◌>>=◌, refused_as}
use Rattle.outcomes.proofs.PartsOfOutcomes.{answer_of}
use Rattle.lines_layout.specs.Lines.{word_at}
use Rattle.isa.specs.declared.instr.Access.{Access}
use Rattle.isa.specs.declared.instr.Access.TheVariants as accesses
use Rattle.isa.specs.declared.instr.Computation.TheVariants.{Add, Compare}
use Rattle.isa.specs.declared.instr.FenceKind.TheVariants.{Mfence, Sfence}
use Rattle.isa.specs.declared.instr.FlushKind.TheVariants.{Clflush, Clflushopt, Clwb}
use Rattle.isa.specs.declared.instr.Instr.{Instr}
use Rattle.isa.specs.declared.instr.Instr.TheVariants as instrs
use Rattle.isa.specs.declared.instr.JumpKind.TheVariants.{Always, IfZero, IfNotZero}
use Rattle.isa.specs.declared.instr.LockedOperation.TheVariants.{Exchange, ExchangeAdd, CompareExchange}
use Rattle.isa.specs.declared.instr.Source.TheVariants.{Register, Number}
use Rattle.isa.specs.declared.register.Reg.TheVariants.{Rax}
use Rattle.isa.specs.declared.register.Regs.{Regs}
use Rattle.isa.specs.Operands.{address_meant}
use Rattle.isa.specs.Registers.{reg}
use Rattle.order_table.specs.declared.Kind.{Kind}
use Rattle.order_table.specs.declared.Kind.TheVariants as kinds
use Rattle.order_table.specs.Operations.{Operation}
use Rattle.store_buffer.specs.declared.entry.Entry.{Entry}
use Rattle.persist_buffer.specs.State.{Memory}
use Rattle.persist_buffer.specs.Memories.{coherent}
use Rattle.processor.specs.declared.act.Act.{Act}
use Rattle.processor.specs.declared.act.Act.TheVariants.{Fence, Locked}
use Rattle.processor.specs.declared.refusal.Refusal.TheVariants.{Halted, BufferNotEmpty}
use Rattle.processor.specs.Contents.{Contents}
use Rattle.processor.specs.Cpus.{Cpu}
use Rattle.processor.specs.Executions.{next_instruction, exec_of}
use Rattle.processor.specs.Instructions.{IsAccessTo, Traps, IsRunOf}
use Rattle.processor.specs.Operations.{kind_of_access, operation_of}
use Rattle.processor.proofs.InstructionsRunAsTold.{Outcome, halted, run_only, traps}
use Rattle.processor.proofs.WaitingIsTheTables.{who_waits}
use Rattle.machine.specs.declared.refusal.Refusal as machine
use Rattle.machine.specs.Refusals.{of_exec}
use Rattle.machine.specs.State.{Processor}
use Rattle.machine.specs.Processors.{program_of, cpu_of, contents_of, with_cpu, run_by}
use Rattle.machine.specs.Effects.{operation_shown}

-- a fence or a locked operation
abbrev pub IsFenceLike : Act → Type 0
IsFenceLike act = (act ≡ Fence) ⊎ ((word : ℕ) × (old : ℕ) × (written : Option ℕ) × (act ≡ Locked word old written))

-- the kinds that wait
abbrev pub Waits : Option Kind → Type 0
Waits kind = (kind ≡ Some kinds.Rmw) ⊎ (kind ≡ Some kinds.Mfence)

-- the address that an instruction means, if it means one, is a word's
abbrev pub Finds : List ℕ → Regs → Instr → Type 0
Finds shape regs (instrs.Memory access operand) = word_at shape (address_meant regs operand) ≢ None
Finds shape regs _ = Unit {0}

-- the kind that an act shows
abbrev kind_shown : Act → Option Kind
kind_shown act = option_map (λ (o : Operation). o.0) (operation_shown act)

module _ (c d : Cpu) (s t : Contents) (act : Act) where
  access_shows : (word : ℕ) (access : Access) → Waits (Some (kind_of_access access)) → IsAccessTo word access c s act d t → IsFenceLike act
  access_shows word (accesses.Load r) waits x = elim waits [ inl e ↦ absurd (cc) | inr e ↦ absurd (cc) ]
  access_shows word (accesses.Store source) waits x = elim waits [ inl e ↦ absurd (cc) | inr e ↦ absurd (cc) ]
  access_shows word (accesses.Locked Exchange r) waits x = inr (_, _, _, x.1)
  access_shows word (accesses.Locked ExchangeAdd r) waits x = inr (_, _, _, x.1)
  access_shows word (accesses.Locked CompareExchange r) waits x =
      elim (cases_eq (reg c.regs Rax) (coherent s.memory word)) [ inl same ↦ inr (_, _, _, (x.1 same).0) | inr other ↦ inr (_, _, _, (x.2 other).0) ]
  access_shows word (accesses.Flush Clflush) waits x = elim waits [ inl e ↦ absurd (cc) | inr e ↦ absurd (cc) ]
  access_shows word (accesses.Flush Clflushopt) waits x = elim waits [ inl e ↦ absurd (cc) | inr e ↦ absurd (cc) ]
  access_shows word (accesses.Flush Clwb) waits x = elim waits [ inl e ↦ absurd (cc) | inr e ↦ absurd (cc) ]

  memory_shows : (access : Access) (address : ℕ) (o : Option ℕ) → Waits (Some (kind_of_access access)) → o ≢ None
      → MatchOption o (Traps c s act d t address) (λ word. IsAccessTo word access c s act d t) → IsFenceLike act
  memory_shows access address None waits found x = absurd (found refl)
  memory_shows access address (Some word) waits found x = access_shows word access waits x

  run_shows : (instr : Instr) → Waits (operation_of instr) → Finds s.shape c.regs instr → IsRunOf instr c s act d t → IsFenceLike act
  run_shows (instrs.Memory access operand) waits found x =
      memory_shows access (address_meant c.regs operand) (word_at s.shape (address_meant c.regs operand)) waits found x
  run_shows (instrs.Fence Mfence) waits found x = inl x.1
  run_shows (instrs.Fence Sfence) waits found x = elim waits [ inl e ↦ absurd (cc) | inr e ↦ absurd (cc) ]
  run_shows (instrs.Set r source) waits found x = elim waits [ inl e ↦ absurd (cc) | inr e ↦ absurd (cc) ]
  run_shows (instrs.Compute operation r number) waits found x = elim waits [ inl e ↦ absurd (cc) | inr e ↦ absurd (cc) ]
  run_shows (instrs.Jump kind target) waits found x = elim waits [ inl e ↦ absurd (cc) | inr e ↦ absurd (cc) ]
  run_shows instrs.Nop waits found x = elim waits [ inl e ↦ absurd (cc) | inr e ↦ absurd (cc) ]

  access_kind : (word : ℕ) (access : Access) → IsAccessTo word access c s act d t → kind_shown act ≡ Some (kind_of_access access)
  access_kind word (accesses.Load r) x = ap kind_shown x.0
  access_kind word (accesses.Store (Register r)) x = ap kind_shown x.0
  access_kind word (accesses.Store (Number n)) x = ap kind_shown x.0
  access_kind word (accesses.Locked Exchange r) x = ap kind_shown x.1
  access_kind word (accesses.Locked ExchangeAdd r) x = ap kind_shown x.1
  access_kind word (accesses.Locked CompareExchange r) x =
      elim (cases_eq (reg c.regs Rax) (coherent s.memory word)) [ inl same ↦ ap kind_shown (x.1 same).0 | inr other ↦ ap kind_shown (x.2 other).0 ]
  access_kind word (accesses.Flush Clflush) x = ap kind_shown x.0
  access_kind word (accesses.Flush Clflushopt) x = ap kind_shown x.0
  access_kind word (accesses.Flush Clwb) x = ap kind_shown x.0

  memory_kind : (access : Access) (address : ℕ) (o : Option ℕ) → d.trap ≡ None
      → MatchOption o (Traps c s act d t address) (λ word. IsAccessTo word access c s act d t) → kind_shown act ≡ Some (kind_of_access access)
  memory_kind access address None untrapped x =
      let trapped : d.trap ≡ Some address = ap (λ (y : Cpu). y.trap) x.1 in
      absurd (cc)
  memory_kind access address (Some word) untrapped x = access_kind word access x

  run_kind : (instr : Instr) → d.trap ≡ None → IsRunOf instr c s act d t → kind_shown act ≡ operation_of instr
  run_kind (instrs.Memory access operand) untrapped x =
      memory_kind access (address_meant c.regs operand) (word_at s.shape (address_meant c.regs operand)) untrapped x
  run_kind (instrs.Fence Mfence) untrapped x = ap kind_shown x.1
  run_kind (instrs.Fence Sfence) untrapped x = ap kind_shown x.0
  run_kind (instrs.Set r (Number value)) untrapped x = ap kind_shown x.0
  run_kind (instrs.Set r (Register other)) untrapped x = ap kind_shown x.0
  run_kind (instrs.Compute Add r value) untrapped x = ap kind_shown x.0
  run_kind (instrs.Compute Compare r value) untrapped x = ap kind_shown x.0
  run_kind (instrs.Jump Always target) untrapped x = ap kind_shown x.0
  run_kind (instrs.Jump IfZero target) untrapped x = ap kind_shown x.0
  run_kind (instrs.Jump IfNotZero target) untrapped x = ap kind_shown x.0
  run_kind instrs.Nop untrapped x = ap kind_shown x.0

-- the instruction that waits, and the entries that it waits for
pub record IsWaited (program : List Instr) (c : Cpu) (s : Contents) : Type 0 where
  pub instr : Instr
  pub there : next_instruction program c ≡ Some instr
  pub waits : Waits (operation_of instr)
  pub finds : Finds s.shape c.regs instr
  pub some : 0 < length s.buffer

some_entry : (buffer : List Entry) → buffer ≢ [] → 0 < length buffer
some_entry [] some = absurd (some refl)
some_entry (entry ∷ entries) some = omega (arith)

-- one that traps does not wait
refused_finds : (program : List Instr) (c : Cpu) (s : Contents) (instr : Instr) → next_instruction program c ≡ Some instr → exec_of program c s ≡ Err BufferNotEmpty
    → Finds s.shape c.regs instr
refused_finds program c s (instrs.Memory access operand) there e = λ none.
    let trapped = traps program c s access operand there none in
    absurd (cc (trapped, e))
refused_finds program c s (instrs.Fence kind) there e = tt
refused_finds program c s (instrs.Set r source) there e = tt
refused_finds program c s (instrs.Compute operation r number) there e = tt
refused_finds program c s (instrs.Jump kind target) there e = tt
refused_finds program c s instrs.Nop there e = tt

refused_there : (program : List Instr) (c : Cpu) (s : Contents) (there : Option Instr) → next_instruction program c ≡ there → exec_of program c s ≡ Err BufferNotEmpty
    → IsWaited program c s
refused_there program c s None at e =
    let bad : ◌≡◌ {A = Outcome} (Err Halted) (Err BufferNotEmpty) = sym (halted program c s at) ∙ e in
    absurd (cc)
refused_there program c s (Some instr) at e =
    let waits = who_waits program c s instr at e in
    record {
      instr = instr;
      there = at;
      waits = waits.0;
      finds = refused_finds program c s instr at e;
      some = some_entry s.buffer waits.1;
    }

pub is_waited : (program : List Instr) (c : Cpu) (s : Contents) → exec_of program c s ≡ Err BufferNotEmpty → IsWaited program c s
is_waited program c s e = refused_there program c s (next_instruction program c) refl e

-- what it shows over the same words, whatever is buffered
pub waited_shows : (program : List Instr) (c d : Cpu) (s u t : Contents) (act : Act) → u.shape ≡ s.shape → IsWaited program c s → exec_of program c u ≡ Ok (act, (d, t))
    → IsFenceLike act
waited_shows program c d s u t act same w e =
    run_shows c d u t act w.instr w.waits (subst (λ (shape : List ℕ). Finds shape c.regs w.instr) (sym same) w.finds)
    (run_only program c d u t act w.instr w.there e)

-- what running comes to, where what the instruction does is known
abbrev pub ran : Processor → Outcome → Result (Act × (Processor × Memory)) machine.Refusal
ran c did = refused_as of_exec did >>= λ done. Ok (done.0, (with_cpu c done.1.0 done.1.1, done.1.1.memory))

ran_kind : (shape : List ℕ) (c d : Processor) (m n : Memory) (act : Act) (instr : Instr) (did : Outcome) → next_instruction (program_of c) (cpu_of c) ≡ Some instr
    → exec_of (program_of c) (cpu_of c) (contents_of shape c.buffer m) ≡ did → ran c did ≡ Ok (act, (d, n)) → d.trap ≡ None → kind_shown act ≡ operation_of instr
ran_kind shape c d m n act instr (Ok done) there is e untrapped =
    let parts = answer_of done.0 act (with_cpu c done.1.0 done.1.1, done.1.1.memory) (d, n) e in
    let free : done.1.0.trap ≡ None = sym (ap (λ (p : Processor × Memory). p.0.trap) parts.1) ∙ untrapped in
    ap kind_shown parts.0 ∙ run_kind (cpu_of c) done.1.0 (contents_of shape c.buffer m) done.1.1 done.0 instr free
    (run_only (program_of c) (cpu_of c) done.1.0 (contents_of shape c.buffer m) done.1.1 done.0 instr there is)
ran_kind shape c d m n act instr (Err refusal) there is e untrapped = absurd (cc)

pub kind_is_the_instructions : (shape : List ℕ) (c d : Processor) (m n : Memory) (act : Act) (instr : Instr) → next_instruction (program_of c) (cpu_of c) ≡ Some instr
    → run_by shape c m ≡ Ok (act, (d, n)) → d.trap ≡ None → option_map (λ (o : Operation). o.0) (operation_shown act) ≡ operation_of instr
kind_is_the_instructions shape c d m n act instr there e untrapped =
    ran_kind shape c d m n act instr (exec_of (program_of c) (cpu_of c) (contents_of shape c.buffer m)) there refl e untrapped
