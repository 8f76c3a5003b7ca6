-- What is so of every instruction that runs, or is refused, over any store buffer and memory: words of the laws.
use Rattle.std.specs.Prelude.{◌≡◌, ◌⊎◌, ℕ, ◌≤◌, Bool, true, Some, None, Result, Ok, Err, List, length}
use Rattle.outcomes.specs.Outcomes.{tested}
use Rattle.lines_layout.specs.Lines.{word_at}
use Rattle.isa.specs.declared.instr.Access.{Access}
use Rattle.isa.specs.declared.instr.Access.TheVariants.{Locked}
use Rattle.isa.specs.declared.instr.Instr.{Instr}
use Rattle.isa.specs.declared.instr.Instr.TheVariants.{Memory}
use Rattle.isa.specs.declared.instr.LockedOperation.{LockedOperation}
use Rattle.isa.specs.declared.instr.MemoryOperand.{MemoryOperand}
use Rattle.isa.specs.declared.register.Reg.{Reg}
use Rattle.isa.specs.Operands.{address_meant}
use Rattle.isa.specs.Programs.{is_program}
use Rattle.order_table.specs.declared.Kind.{Kind}
use Rattle.order_table.specs.declared.Kind.TheVariants as kinds
use Rattle.order_table.specs.Order.{is_kept}
use Rattle.store_buffer.specs.declared.entry.Entry.{Entry}
use Rattle.store_buffer.specs.Buffers.{kind_of}
use Rattle.processor.specs.declared.act.Act.{Act}
use Rattle.processor.specs.declared.refusal.Refusal.{Refusal}
use Rattle.processor.specs.Contents.{Contents, seen_value}
use Rattle.processor.specs.Cpus.{Cpu}
use Rattle.processor.specs.Executions.{next_instruction, exec_of, check_of}
use Rattle.processor.specs.Acts.{IsWritten}
use Rattle.processor.specs.Operations.{operation_of}

-- of every program, every processor in it, and all that it reads and writes
abbrev pub Everywhere : (List Instr → Cpu → Contents → Type 0) → Type 0
Everywhere Holds = (program : List Instr) (c : Cpu) (s : Contents) → Holds program c s

-- of every execution: the program, processor and contents before it, what it shows, and both after it
abbrev pub EveryExec : (List Instr → Cpu → Contents → Act → Cpu → Contents → Type 0) → Type 0
EveryExec Holds = (program : List Instr) (c d : Cpu) (s t : Contents) (act : Act) → exec_of program c s ≡ Ok (act, (d, t)) → Holds program c s act d t

-- of every instruction that runs: it, processor and contents before it, what it shows, and both after it
abbrev pub EveryRun : (Instr → Cpu → Contents → Act → Cpu → Contents → Type 0) → Type 0
EveryRun Holds = (program : List Instr) (c d : Cpu) (s t : Contents) (act : Act) (instr : Instr)
    → next_instruction program c ≡ Some instr → exec_of program c s ≡ Ok (act, (d, t)) → Holds instr c s act d t

-- where this holds of the next instruction, it runs, and shows and leaves that
abbrev pub RunsWhere : (Instr → Cpu → Contents → Act → Cpu → Contents → Type 0) → Type 0
RunsWhere Holds = (program : List Instr) (c d : Cpu) (s t : Contents) (act : Act) (instr : Instr)
    → next_instruction program c ≡ Some instr → Holds instr c s act d t → exec_of program c s ≡ Ok (act, (d, t))

-- of every instruction that shows this
abbrev pub EveryShowing : Act → (Instr → Type 0) → Type 0
EveryShowing act Holds = (program : List Instr) (c d : Cpu) (s t : Contents) (instr : Instr)
    → next_instruction program c ≡ Some instr → exec_of program c s ≡ Ok (act, (d, t)) → Holds instr

-- of every instruction that is refused so: it, and the contents
abbrev pub EveryRefused : Refusal → (Instr → Contents → Type 0) → Type 0
EveryRefused refusal Holds = (program : List Instr) (c : Cpu) (s : Contents) (instr : Instr)
    → next_instruction program c ≡ Some instr → exec_of program c s ≡ Err refusal → Holds instr s

-- of every access that is next in a program: the program, processor and contents, the access, and the address that it means
abbrev pub EveryAccess : (List Instr → Cpu → Contents → Access → ℕ → Type 0) → Type 0
EveryAccess Holds = (program : List Instr) (c : Cpu) (s : Contents) (access : Access) (operand : MemoryOperand)
    → next_instruction program c ≡ Some (Memory access operand) → Holds program c s access (address_meant c.regs operand)

-- of every locked operation that runs on a word: its register and word, processor and contents before it, and both after it
abbrev pub EveryLocked : LockedOperation → (Reg → ℕ → Cpu → Contents → Cpu → Contents → Type 0) → Type 0
EveryLocked operation Holds = (program : List Instr) (c d : Cpu) (s t : Contents) (act : Act) (operand : MemoryOperand) (r : Reg) (word : ℕ)
    → next_instruction program c ≡ Some (Memory (Locked operation r) operand) → word_at s.shape (address_meant c.regs operand) ≡ Some word
    → exec_of program c s ≡ Ok (act, (d, t)) → Holds r word c s d t

-- whether the table keeps an operation of a kind after an entry, whichever entry and line
abbrev pub AfterEveryEntry : Kind → Bool → Type 0
AfterEveryEntry kind kept = (entry : Entry) (same_line : Bool) → is_kept (kind_of entry) kind same_line ≡ kept

-- an instruction whose operation is of this kind
abbrev pub HasKind : Kind → Instr → Type 0
HasKind kind instr = operation_of instr ≡ Some kind

-- an instruction that waits for an empty store buffer
abbrev pub IsWaiting : Instr → Type 0
IsWaiting instr = HasKind kinds.Rmw instr ⊎ HasKind kinds.Mfence instr

-- where this holds, every instruction is refused so
abbrev pub RefusedWhere : Refusal → (List Instr → Cpu → Contents → Type 0) → Type 0
RefusedWhere refusal Holds = (program : List Instr) (c : Cpu) (s : Contents) → Holds program c s → exec_of program c s ≡ Err refusal

-- of every write at the end of the pending list: the contents before it and after it, its word and its value
abbrev pub EveryWritten : (Contents → Contents → ℕ → ℕ → Type 0) → Type 0
EveryWritten Holds = (s t : Contents) (word value : ℕ) → IsWritten s t word value → Holds s t word value

-- the tests alone say whether an instruction runs, or its refusal
abbrev pub IsForetold : List Instr → Cpu → Contents → Type 0
IsForetold program c s = tested (exec_of program c s) ≡ tested (check_of program c s)

-- no instruction is next: the processor is trapped, or its place is its program's length
abbrev pub HasNoNext : List Instr → Cpu → Contents → Type 0
HasNoNext program c s = next_instruction program c ≡ None

-- an instruction is next
abbrev pub IsNext : Instr → List Instr → Cpu → Type 0
IsNext instr program c = next_instruction program c ≡ Some instr

-- a processor is at a place of what is a program, or at its end
abbrev pub IsPlacedIn : List Instr → Cpu → Type 0
IsPlacedIn program c = is_program program ≡ true → c.place ≤ length program

-- a processor sees the same value of every word
abbrev pub SeesTheSame : Contents → Contents → Type 0
SeesTheSame s t = (any : ℕ) → seen_value t any ≡ seen_value s any
