-- What each instruction does, a case for each, stated apart from the functions that compute it: a
-- processor and what it reads and writes before it, c and s, what the instruction shows, act, and the
-- processor and what it reads and writes after it, d and t.
use Rattle.std.specs.Prelude.{◌≡◌, ◌≢◌, ℕ, ◌+◌, true, false, Some, None, [], ◌==◌, MatchOption}
use Rattle.lines_layout.specs.Lines.{line_of, word_at}
use Rattle.isa.specs.declared.instr.Access.{Access}
use Rattle.isa.specs.declared.instr.Access.TheVariants as accesses
use Rattle.isa.specs.declared.instr.Computation.TheVariants.{Add, Compare}
use Rattle.isa.specs.declared.instr.FenceKind.TheVariants.{Mfence, Sfence}
use Rattle.isa.specs.declared.instr.FlushKind.TheVariants.{Clflush, Clflushopt, Clwb}
use Rattle.isa.specs.declared.instr.Instr.{Instr}
use Rattle.isa.specs.declared.instr.Instr.TheVariants as instrs
use Rattle.isa.specs.declared.instr.JumpKind.TheVariants.{Always, IfZero, IfNotZero}
use Rattle.isa.specs.declared.instr.LockedOperation.TheVariants.{Exchange, ExchangeAdd, CompareExchange}
use Rattle.isa.specs.declared.instr.Source.TheVariants.{Register, Number}
use Rattle.isa.specs.declared.register.Reg.TheVariants.{Rax}
use Rattle.isa.specs.declared.register.Regs.{Regs}
use Rattle.isa.specs.Operands.{address_meant}
use Rattle.isa.specs.Registers.{reg, with_reg, with_zero, word_sum}
use Rattle.store_buffer.specs.declared.entry.Entry.{Entry}
use Rattle.store_buffer.specs.declared.entry.Entry.TheVariants as entries
use Rattle.persist_buffer.specs.Memories.{coherent}
use Rattle.processor.specs.declared.act.Act.{Act}
use Rattle.processor.specs.declared.act.Act.TheVariants.{Local, Fence, Read, Delay, Locked, Trap}
use Rattle.processor.specs.Contents.{Contents, seen_value}
use Rattle.processor.specs.Cpus.{Cpu}
use Rattle.processor.specs.Acts.{IsDelayed, IsWritten}

-- the program goes on at the following place, with these registers
abbrev pub GoesOn : Cpu → Cpu → Regs → Type 0
GoesOn c d regs = d ≡ record c { place = c.place + 1; regs = regs }

-- the program goes on at a target, and the registers stay
abbrev pub Jumps : Cpu → Cpu → ℕ → Type 0
Jumps c d target = d ≡ record c { place = target }

-- an entry goes to the end of the store buffer and is shown, and the registers stay
abbrev pub Delays : Cpu → Contents → Act → Cpu → Contents → Entry → Type 0
Delays c s act d t entry = (act ≡ Delay entry) × GoesOn c d c.regs × IsDelayed s t entry

-- what an access to a word does
abbrev pub IsAccessTo : ℕ → Access → Cpu → Contents → Act → Cpu → Contents → Type 0
IsAccessTo word (accesses.Load r) c s act d t =
    let value = seen_value s word in
    (act ≡ Read word value) × GoesOn c d (with_reg c.regs r value) × (t ≡ s)
IsAccessTo word (accesses.Store (Register r)) c s act d t = Delays c s act d t (entries.Write word (reg c.regs r))
IsAccessTo word (accesses.Store (Number value)) c s act d t = Delays c s act d t (entries.Write word value)
IsAccessTo word (accesses.Locked Exchange r) c s act d t =
    let old = coherent s.memory word in
    let new = reg c.regs r in
    (s.buffer ≡ [])
    × (act ≡ Locked word old (Some new)) × GoesOn c d (with_reg c.regs r old) × IsWritten s t word new
IsAccessTo word (accesses.Locked ExchangeAdd r) c s act d t =
    let old = coherent s.memory word in
    let sum = word_sum old (reg c.regs r) in
    (s.buffer ≡ [])
    × (act ≡ Locked word old (Some sum)) × GoesOn c d (with_zero (with_reg c.regs r old) (sum == 0)) × IsWritten s t word sum
IsAccessTo word (accesses.Locked CompareExchange r) c s act d t =
    let old = coherent s.memory word in
    let new = reg c.regs r in
    (s.buffer ≡ [])
    × (reg c.regs Rax ≡ old
    → (act ≡ Locked word old (Some new)) × GoesOn c d (with_zero c.regs true) × IsWritten s t word new)
    × (reg c.regs Rax ≢ old
    → (act ≡ Locked word old None) × GoesOn c d (with_zero (with_reg c.regs Rax old) false) × (t ≡ s))
IsAccessTo word (accesses.Flush Clflush) c s act d t = Delays c s act d t (entries.Flush (line_of word))
IsAccessTo word (accesses.Flush Clflushopt) c s act d t = Delays c s act d t (entries.FlushOpt (line_of word))
IsAccessTo word (accesses.Flush Clwb) c s act d t = Delays c s act d t (entries.FlushOpt (line_of word))

-- the processor is trapped at an address, and all else stays
abbrev pub Traps : Cpu → Contents → Act → Cpu → Contents → ℕ → Type 0
Traps c s act d t address = (act ≡ Trap address) × (d ≡ record c { trap = Some address }) × (t ≡ s)

-- what the instruction does
abbrev pub IsRunOf : Instr → Cpu → Contents → Act → Cpu → Contents → Type 0
IsRunOf (instrs.Set r (Number value)) c s act d t = (act ≡ Local) × GoesOn c d (with_reg c.regs r value) × (t ≡ s)
IsRunOf (instrs.Set r (Register other)) c s act d t = (act ≡ Local) × GoesOn c d (with_reg c.regs r (reg c.regs other)) × (t ≡ s)
IsRunOf (instrs.Compute Add r value) c s act d t =
    let sum = word_sum (reg c.regs r) value in
    (act ≡ Local) × GoesOn c d (with_zero (with_reg c.regs r sum) (sum == 0)) × (t ≡ s)
IsRunOf (instrs.Compute Compare r value) c s act d t = (act ≡ Local) × GoesOn c d (with_zero c.regs (reg c.regs r == value)) × (t ≡ s)
IsRunOf (instrs.Jump Always target) c s act d t = (act ≡ Local) × Jumps c d target × (t ≡ s)
IsRunOf (instrs.Jump IfZero target) c s act d t =
    (act ≡ Local) × (c.regs.zero ≡ true → Jumps c d target) × (c.regs.zero ≡ false → GoesOn c d c.regs) × (t ≡ s)
IsRunOf (instrs.Jump IfNotZero target) c s act d t =
    (act ≡ Local) × (c.regs.zero ≡ false → Jumps c d target) × (c.regs.zero ≡ true → GoesOn c d c.regs) × (t ≡ s)
IsRunOf instrs.Nop c s act d t = (act ≡ Local) × GoesOn c d c.regs × (t ≡ s)
IsRunOf (instrs.Memory access operand) c s act d t =
    let address = address_meant c.regs operand in
    MatchOption (word_at s.shape address) (Traps c s act d t address) (λ word. IsAccessTo word access c s act d t)
IsRunOf (instrs.Fence Mfence) c s act d t = (s.buffer ≡ []) × (act ≡ Fence) × GoesOn c d c.regs × (t ≡ s)
IsRunOf (instrs.Fence Sfence) c s act d t = Delays c s act d t entries.Sfence
