-- What may be put into a program: behind each instruction that accesses memory a flush of what it accesses, and a fence.
use Rattle.std.specs.Prelude.{ℕ, ◌==◌, Bool, true, false, not, List, [], ◌∷◌, ◌++◌, map, if◌then◌else◌}
use Rattle.std.specs.List.{enumerate_from, flat_map}
use Rattle.isa.specs.declared.instr.Access.{Access}
use Rattle.isa.specs.declared.instr.Access.TheVariants.{Flush, Load, Locked, Store}
use Rattle.isa.specs.declared.instr.FenceKind.TheVariants.{Mfence, Sfence}
use Rattle.isa.specs.declared.instr.FlushKind.TheVariants.{Clflush, Clwb}
use Rattle.isa.specs.declared.instr.Instr.{Instr}
use Rattle.isa.specs.declared.instr.Instr.TheVariants.{Fence, Memory}
use Rattle.isa.specs.declared.instr.LockedOperation.{LockedOperation}
use Rattle.isa.specs.declared.instr.LockedOperation.TheVariants.{CompareExchange, Exchange, ExchangeAdd}
use Rattle.isa.specs.declared.instr.MemoryOperand.{MemoryOperand}
use Rattle.isa.specs.declared.instr.MemoryOperand.TheVariants.{Register, Word}
use Rattle.isa.specs.declared.programs.Programs.{Programs}
use Rattle.isa.specs.declared.register.Reg.{Reg}
use Rattle.isa.specs.declared.register.Reg.TheVariants.{Rax}
use Rattle.isa.specs.Objects.{Object}
use Rattle.isa.specs.Registers.{slot}
use Rattle.image_reasons.specs.declared.entries.Site.{Site}
use Rattle.image_reasons.specs.declared.repair.Repair.{Repair}
use Rattle.image_reasons.specs.declared.repair.Side.TheVariants.{Behind}

-- whether two registers are one
abbrev pub is_same_reg : Reg → Reg → Bool
is_same_reg a b = slot a == slot b

-- the register that a locked operation writes, given the register in it: a cmpxchg writes rax
abbrev pub locked_writes : LockedOperation → Reg → Reg
locked_writes Exchange own = own
locked_writes ExchangeAdd own = own
locked_writes CompareExchange own = Rax

-- whether a register has the same value behind an access as before it
abbrev pub reg_kept : Access → Reg → Bool
reg_kept (Load written) r = not (is_same_reg written r)
reg_kept (Store source) r = true
reg_kept (Locked operation own) r = not (is_same_reg (locked_writes operation own) r)
reg_kept (Flush kind) r = true

-- whether an operand means the same address behind an access as before it
abbrev pub operand_kept : Access → MemoryOperand → Bool
operand_kept access (Word word) = true
operand_kept access (Register r) = reg_kept access r

-- the flushes of an operand
abbrev pub flushes_of : MemoryOperand → List Instr
flushes_of operand = Memory (Flush Clwb) operand ∷ Memory (Flush Clflush) operand ∷ []

-- The flushes that may be put in behind an access: of what it accesses, where that is still known. None behind a flush.
abbrev pub flushes_behind : Access → MemoryOperand → List Instr
flushes_behind (Flush kind) operand = []
flushes_behind access operand = if operand_kept access operand then flushes_of operand else []

-- the fences
abbrev pub fences : List Instr
fences = Fence Sfence ∷ Fence Mfence ∷ []

-- what may be put in behind an instruction: nothing where it accesses no memory
abbrev pub behind_instr : Instr → List Instr
behind_instr (Memory access operand) = flushes_behind access operand ++ fences
behind_instr _ = []

-- an instruction behind the one at a site
abbrev pub put_behind : Site → Instr → Repair
put_behind site instr = record { side = Behind; site = site; instr = instr }

-- the candidates behind the instruction at a site
abbrev pub candidates_at : Site → Instr → List Repair
candidates_at site instr = map (put_behind site) (behind_instr instr)

-- those of a program, by place
abbrev pub candidates_in : ℕ → Bool → List Instr → List Repair
candidates_in processor recovering code =
    flat_map (λ (e : ℕ × Instr). candidates_at (record { processor = processor; recovering = recovering; place = e.0 }) e.1) (enumerate_from 0 code)

-- those of a processor: of its main program, and then of its recovery program
abbrev pub candidates_by : ℕ → Programs → List Repair
candidates_by processor programs = candidates_in processor false programs.main ++ candidates_in processor true programs.recovery

-- those of an object, processor by processor
abbrev pub candidates_of : Object → List Repair
candidates_of object = flat_map (λ (e : ℕ × Programs). candidates_by e.0 e.1) (enumerate_from 0 object.processors)
