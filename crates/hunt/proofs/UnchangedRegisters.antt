-- Instructions that leave the registers of their processor.
use Rattle.std.proofs.Common.{◌≡◌, ℕ, zero, suc, true, false, true≢false, Option, Some, None, Result, Ok, Err, List, [], ◌∷◌, refl, sym, ap, ◌∙◌, subst, option_map}
use native.Mathlib.Decide.{ℕ_discrete}
use Rattle.std.specs.Prelude.{MatchOption, slice_get, slice_set}
use Rattle.lines_layout.specs.Lines.{word_at}
use Rattle.isa.specs.declared.instr.Access.{Access}
use Rattle.isa.specs.declared.instr.Access.TheVariants as accesses
use Rattle.isa.specs.declared.instr.Computation.TheVariants.{Add, Compare}
use Rattle.isa.specs.declared.instr.FenceKind.TheVariants.{Mfence, Sfence}
use Rattle.isa.specs.declared.instr.FlushKind.TheVariants.{Clflush, Clflushopt, Clwb}
use Rattle.isa.specs.declared.instr.Instr.{Instr}
use Rattle.isa.specs.declared.instr.Instr.TheVariants as instrs
use Rattle.isa.specs.declared.instr.JumpKind.TheVariants.{Always, IfZero, IfNotZero}
use Rattle.isa.specs.declared.instr.LockedOperation.TheVariants.{Exchange, ExchangeAdd, CompareExchange}
use Rattle.isa.specs.declared.instr.Source.TheVariants.{Register, Number}
use Rattle.isa.specs.declared.register.Reg.{Reg}
use Rattle.isa.specs.declared.register.Reg.TheVariants.{Rax}
use Rattle.isa.specs.declared.register.Regs.{Regs}
use Rattle.isa.specs.Operands.{address_meant}
use Rattle.isa.specs.Registers.{reg}
use Rattle.outcomes.specs.Outcomes.{◌>>=◌, refused_as}
use Rattle.outcomes.proofs.PartsOfOutcomes.{answer_of}
use Rattle.persist_buffer.specs.State.{Memory}
use Rattle.persist_buffer.specs.Memories.{coherent}
use Rattle.processor.specs.declared.act.Act.{Act}
use Rattle.processor.specs.declared.refusal.Refusal as exec
use Rattle.processor.specs.Contents.{Contents}
use Rattle.processor.specs.Cpus.{Cpu}
use Rattle.processor.specs.Executions.{exec_of, next_instruction}
use Rattle.processor.specs.Instructions.{IsAccessTo, IsRunOf, Traps}
use Rattle.processor.proofs.InstructionsRunAsTold.{run_only, halted}
use Rattle.machine.specs.declared.refusal.Refusal.{Refusal}
use Rattle.machine.specs.State.{Processor}
use Rattle.machine.specs.Refusals.{of_exec}
use Rattle.machine.specs.Processors.{program_of, cpu_of, contents_of, with_cpu, run_by}
use Rattle.hunt.specs.Unchanged.{act_leaves_all}

-- an act that is another
not_so : (act other : Act) → act ≡ other → act_leaves_all other true ≡ false → act_leaves_all act true ≡ true → ⊥
not_so act other is changes keeps = true≢false (sym keeps ∙ ap (λ (a : Act). act_leaves_all a true) is ∙ changes)

module _ (word : ℕ) (c d : Cpu) (s t : Contents) (act : Act) (keeps : act_leaves_all act true ≡ true) where
  access_kept : (access : Access) → IsAccessTo word access c s act d t → d.regs ≡ c.regs
  access_kept (accesses.Load r) run = absurd (not_so act _ run.0 refl keeps)
  access_kept (accesses.Store (Register r)) run = ap (λ (x : Cpu). x.regs) run.1
  access_kept (accesses.Store (Number value)) run = ap (λ (x : Cpu). x.regs) run.1
  access_kept (accesses.Locked Exchange r) run = absurd (not_so act _ run.1 refl keeps)
  access_kept (accesses.Locked ExchangeAdd r) run = absurd (not_so act _ run.1 refl keeps)
  access_kept (accesses.Locked CompareExchange r) run = elim (ℕ_discrete (reg c.regs Rax) (coherent s.memory word)) [
    | yes same ↦ absurd (not_so act _ (run.1 same).0 refl keeps)
    | no other ↦ absurd (not_so act _ (run.2 other).0 refl keeps)
  ]
  access_kept (accesses.Flush Clflush) run = ap (λ (x : Cpu). x.regs) run.1
  access_kept (accesses.Flush Clflushopt) run = ap (λ (x : Cpu). x.regs) run.1
  access_kept (accesses.Flush Clwb) run = ap (λ (x : Cpu). x.regs) run.1

memory_kept : (o : Option ℕ) (access : Access) (address : ℕ) (c d : Cpu) (s t : Contents) (act : Act) → act_leaves_all act true ≡ true
    → MatchOption o (Traps c s act d t address) (λ word. IsAccessTo word access c s act d t) → d.regs ≡ c.regs
memory_kept None access address c d s t act keeps run = ap (λ (x : Cpu). x.regs) run.1
memory_kept (Some word) access address c d s t act keeps run = access_kept word c d s t act keeps access run

run_kept : (instr : Instr) (c d : Cpu) (s t : Contents) (act : Act) → act_leaves_all act true ≡ true → IsRunOf instr c s act d t → d.regs ≡ c.regs
run_kept (instrs.Set r (Number value)) c d s t act keeps run = absurd (not_so act _ run.0 refl keeps)
run_kept (instrs.Set r (Register other)) c d s t act keeps run = absurd (not_so act _ run.0 refl keeps)
run_kept (instrs.Compute Add r value) c d s t act keeps run = absurd (not_so act _ run.0 refl keeps)
run_kept (instrs.Compute Compare r value) c d s t act keeps run = absurd (not_so act _ run.0 refl keeps)
run_kept (instrs.Jump Always target) c d s t act keeps run = absurd (not_so act _ run.0 refl keeps)
run_kept (instrs.Jump IfZero target) c d s t act keeps run = absurd (not_so act _ run.0 refl keeps)
run_kept (instrs.Jump IfNotZero target) c d s t act keeps run = absurd (not_so act _ run.0 refl keeps)
run_kept instrs.Nop c d s t act keeps run = absurd (not_so act _ run.0 refl keeps)
run_kept (instrs.Memory access operand) c d s t act keeps run =
    memory_kept (word_at s.shape (address_meant c.regs operand)) access (address_meant c.regs operand) c d s t act keeps run
run_kept (instrs.Fence Mfence) c d s t act keeps run = ap (λ (x : Cpu). x.regs) run.2
run_kept (instrs.Fence Sfence) c d s t act keeps run = ap (λ (x : Cpu). x.regs) run.1

-- what running comes to, where what the instruction does is known
abbrev ran : Processor → Result (Act × (Cpu × Contents)) exec.Refusal → Result (Act × (Processor × Memory)) Refusal
ran c did = refused_as of_exec did >>= λ done. Ok (done.0, (with_cpu c done.1.0 done.1.1, done.1.1.memory))

module _ (shape : List ℕ) (c d : Processor) (m n : Memory) (act : Act) (keeps : act_leaves_all act true ≡ true) where
  ran_kept : (there : Option Instr) (did : Result (Act × (Cpu × Contents)) exec.Refusal) → next_instruction (program_of c) (cpu_of c) ≡ there
      → exec_of (program_of c) (cpu_of c) (contents_of shape c.buffer m) ≡ did → ran c did ≡ Ok (act, (d, n)) → d.regs ≡ c.regs
  ran_kept there (Err refusal) at is e = absurd cc
  ran_kept None (Ok done) at is e = let stands = halted (program_of c) (cpu_of c) (contents_of shape c.buffer m) at in absurd cc
  ran_kept (Some instr) (Ok done) at is e =
      let parts = answer_of done.0 act (with_cpu c done.1.0 done.1.1, done.1.1.memory) (d, n) e in
      let run = run_only (program_of c) (cpu_of c) done.1.0 (contents_of shape c.buffer m) done.1.1 done.0 instr at is in
      ap (λ (p : Processor × Memory). p.0.regs) parts.1
      ∙ run_kept instr (cpu_of c) done.1.0 (contents_of shape c.buffer m) done.1.1 done.0 (subst (λ (a : Act). act_leaves_all a true ≡ true) parts.0 keeps) run

pub registers_kept : (shape : List ℕ) (c d : Processor) (m n : Memory) (act : Act) → act_leaves_all act true ≡ true → run_by shape c m ≡ Ok (act, (d, n)) → d.regs ≡ c.regs
registers_kept shape c d m n act keeps e =
    ran_kept shape c d m n act keeps (next_instruction (program_of c) (cpu_of c)) (exec_of (program_of c) (cpu_of c) (contents_of shape c.buffer m)) refl refl e

-- a processor with the registers of the one whose place it takes
pub set_kept : (cpus : List Processor) (p : ℕ) (before after : Processor) (q : ℕ) (r : Reg) → slice_get cpus p ≡ Some before → after.regs ≡ before.regs
    → option_map (λ (c : Processor). reg c.regs r) (slice_get (slice_set cpus p after) q) ≡ option_map (λ (c : Processor). reg c.regs r) (slice_get cpus q)
set_kept [] p before after q r there same = refl
set_kept (c ∷ cpus) zero before after zero r there same =
    let here : before ≡ c = cc in ap (λ (x : Regs). Some (reg x r)) (same ∙ ap (λ (x : Processor). x.regs) here)
set_kept (c ∷ cpus) zero before after (suc q) r there same = refl
set_kept (c ∷ cpus) (suc p) before after zero r there same = refl
set_kept (c ∷ cpus) (suc p) before after (suc q) r there same = set_kept cpus p before after q r there same
