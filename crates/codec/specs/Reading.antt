-- Reading one instruction, byte after byte.
use Rattle.std.specs.Prelude.{◌≡◌, ℕ, ◌-◌, ◌/◌, ◌%◌, Bool, true, false, List, Option, Some, None, Result, Ok, Err, nat_lt, ◌==◌, ◌&&◌, not, if◌then◌else◌}
use Rattle.std.specs.Borrow.{Bor}
use Rattle.std.specs.Int.{Width, w32, w64, cast_signed}
use Rattle.outcomes.specs.Outcomes.{◌>>=◌}
use Rattle.isa.specs.declared.register.Reg.{Reg}
use Rattle.isa.specs.declared.register.Reg.TheVariants.{Rax, Rcx, Rdx, Rbx, Rsi, Rdi, R8, R9}
use Rattle.isa.specs.declared.instr.Access.{Access}
use Rattle.isa.specs.declared.instr.Access.TheVariants.{Load, Store, Locked, Flush}
use Rattle.isa.specs.declared.instr.Computation.{Computation}
use Rattle.isa.specs.declared.instr.Computation.TheVariants.{Add, Compare}
use Rattle.isa.specs.declared.instr.FenceKind.TheVariants.{Mfence, Sfence}
use Rattle.isa.specs.declared.instr.FlushKind.{FlushKind}
use Rattle.isa.specs.declared.instr.FlushKind.TheVariants.{Clflush, Clflushopt, Clwb}
use Rattle.isa.specs.declared.instr.JumpKind.{JumpKind}
use Rattle.isa.specs.declared.instr.JumpKind.TheVariants.{Always, IfZero, IfNotZero}
use Rattle.isa.specs.declared.instr.LockedOperation.{LockedOperation}
use Rattle.isa.specs.declared.instr.LockedOperation.TheVariants.{Exchange, ExchangeAdd, CompareExchange}
use Rattle.isa.specs.declared.instr.Source.TheVariants as sources
use Rattle.isa.specs.Immediates.{sign_extended}
use Rattle.codec.specs.Bytes.{Gives, byte_at, number_at}
use Rattle.codec.specs.declared.form.Address.{Address}
use Rattle.codec.specs.declared.form.Address.TheVariants.{Absolute, Register}
use Rattle.codec.specs.declared.form.Form.{Form}
use Rattle.codec.specs.declared.form.Form.TheVariants.{Set, Compute, Jump, Nop, Memory, Fence}
use Rattle.codec.specs.declared.form.Miss.{Miss}
use Rattle.codec.specs.declared.form.Miss.TheVariants.{Unknown, Truncated}

abbrev pub literal_at : ℕ → List ℕ → Result (List ℕ) Miss
literal_at c bytes = byte_at Truncated bytes >>= λ b. if b.0 == c then Ok b.1 else Err Unknown

-- what to read next
pub data Reader : Type 0 where
  Done : Form → Reader
  Refuse : Reader
  Literal : ℕ → Reader → Reader
  Byte : (ℕ → Reader) → Reader
  Number : Width → (ℕ → Reader) → Reader

abbrev pub run : Reader → List ℕ → Result (Form × List ℕ) Miss
run (Done x) bytes = Ok (x, bytes)
run Refuse bytes = Err Unknown
run (Literal c next) bytes = literal_at c bytes >>= λ rest. run next rest
run (Byte next) bytes = byte_at Truncated bytes >>= λ b. run (next b.0) b.1
run (Number w next) bytes = number_at Truncated w bytes >>= λ n. run (next n.0) n.1

-- the register of a field of three bits and a bit of REX
abbrev pub reg_of : Bool → ℕ → Option Reg
reg_of false n = if n == 0 then Some Rax else if n == 1 then Some Rcx else if n == 2 then Some Rdx else if n == 3 then Some Rbx else if n == 6 then Some Rsi else if n == 7 then Some Rdi else None
reg_of true n = if n == 0 then Some R8 else if n == 1 then Some R9 else None

abbrev pub with_reg : Option Reg → (Reg → Reader) → Reader
with_reg None next = Refuse
with_reg (Some r) next = next r

-- the fields of a ModRM byte
abbrev pub mode : ℕ → ℕ
mode m = m / 64

abbrev pub reg_field : ℕ → ℕ
reg_field m = m / 8 % 8

abbrev pub rm_field : ℕ → ℕ
rm_field m = m % 8

-- a memory operand after its ModRM byte, where REX has this bit B
unfoldable pub operand : Bool → ℕ → (Address → Reader) → Reader
operand b m next =
    if mode m == 0 then
    (if not b && rm_field m == 4 then Literal 0x25 (Number w32 (λ a. next (Absolute a)))
    else with_reg (reg_of b (rm_field m)) (λ r. next (Register r)))
    else Refuse

-- What a function returned is what a reader's beginning gives, whatever is read next.
abbrev pub ReadsBeginning : {X : Type 0} → Result (X × Bor (List ℕ)) Miss → (X → Reader) → Result (Form × List ℕ) Miss → Type 0
ReadsBeginning (Ok x) next told = told ≡ run (next x.0) x.1.now
ReadsBeginning (Err e) next told = told ≡ Err e

-- a memory operand, whatever is read next
abbrev pub ReadsOperand : Bool → ℕ → List ℕ → Result (Address × Bor (List ℕ)) Miss → Type 0
ReadsOperand b m bytes result = (next : Address → Reader) → ReadsBeginning result next (run (operand b m next) bytes)

-- What a function returned is the form that a reader gives, and what follows it.
abbrev pub ReadsForm : Reader → List ℕ → Result (Form × Bor (List ℕ)) Miss → Type 0
ReadsForm reader bytes result = Gives (λ x. (x.0, x.1.now)) result (run reader bytes)

-- a register and a memory operand after the opcode, where REX has these bits R and B
unfoldable pub register_and_memory : (Reg → Access) → Bool → Bool → ℕ → Reader
register_and_memory make r b m = with_reg (reg_of r (reg_field m)) (λ reg. operand b m (λ p. Done (Memory (make reg) p)))

-- both, whatever the access
abbrev pub ReadsRegisterAndMemory : Bool → Bool → ℕ → List ℕ → Result ((Reg × Address) × Bor (List ℕ)) Miss → Type 0
ReadsRegisterAndMemory r b m bytes result =
    (make : Reg → Access) → Gives (λ x. (Memory (make x.0.0) x.0.1, x.1.now)) result (run (register_and_memory make r b m) bytes)

-- the same after the opcode of a locked operation
abbrev pub exchange : LockedOperation → Bool → Bool → Reader
exchange operation r b = Byte (register_and_memory (λ reg. Locked operation reg) r b)

-- the memory operand of a flush
unfoldable pub flush : FlushKind → Bool → ℕ → Reader
flush kind b m = operand b m (λ p. Done (Memory (Flush kind) p))

-- the distance of a jump
unfoldable pub jump : JumpKind → Reader
jump kind = Number w32 (λ n. Done (Jump kind (cast_signed w32 n)))

-- clflush after 0F AE, where 41 was before them or not
unfoldable pub strong_flush : Bool → ℕ → Reader
strong_flush b m = if reg_field m == 7 then flush Clflush b m else Refuse

unfoldable pub after_0fae : ℕ → Reader
after_0fae m =
    if m == 0xF0 then Done (Fence Mfence)
    else if m == 0xF8 then Done (Fence Sfence)
    else strong_flush false m

unfoldable pub after_0f : ℕ → Reader
after_0f b =
    if b == 0xAE then Byte after_0fae
    else if b == 0x84 then jump IfZero
    else if b == 0x85 then jump IfNotZero
    else Refuse

unfoldable pub after_41 : Reader
after_41 = Literal 0x0F (Literal 0xAE (Byte (strong_flush true)))

-- clflushopt or clwb after 66 and 0F AE, where 41 was between them or not
unfoldable pub weak_flush : Bool → ℕ → Reader
weak_flush b m =
    if reg_field m == 7 then flush Clflushopt b m
    else if reg_field m == 6 then flush Clwb b m
    else Refuse

unfoldable pub after_66 : ℕ → Reader
after_66 c =
    if c == 0x0F then Literal 0xAE (Byte (weak_flush false))
    else if c == 0x41 then Literal 0x0F (Literal 0xAE (Byte (weak_flush true)))
    else Refuse

unfoldable pub locked : Bool → Bool → ℕ → Reader
locked r b op =
    if op == 0xC1 then exchange ExchangeAdd r b
    else if op == 0xB1 then exchange CompareExchange r b
    else Refuse

-- after F0 and REX with these bits R and B
unfoldable pub locked_behind : Bool → Bool → Reader
locked_behind r b = Literal 0x0F (Byte (locked r b))

unfoldable pub after_f0 : ℕ → Reader
after_f0 c =
    if c == 0x48 then locked_behind false false
    else if c == 0x49 then locked_behind false true
    else if c == 0x4C then locked_behind true false
    else if c == 0x4D then locked_behind true true
    else Refuse

-- after 89: a register, or a memory operand
unfoldable pub move_from : Bool → Bool → ℕ → Reader
move_from r b m = with_reg (reg_of r (reg_field m)) (λ from.
    if mode m == 3 then with_reg (reg_of b (rm_field m)) (λ to. Done (Set to (sources.Register from)))
    else operand b m (λ p. Done (Memory (Store (sources.Register from)) p)))

-- the register and the number of a computation
unfoldable pub compute : Computation → Bool → ℕ → Reader
compute operation b m = with_reg (reg_of b (rm_field m)) (λ to. Number w32 (λ n. Done (Compute operation to (sign_extended n))))

-- after 81: add or cmp
unfoldable pub arithmetic : Bool → ℕ → Reader
arithmetic b m =
    if nat_lt (mode m) 3 then Refuse
    else if reg_field m == 0 then compute Add b m
    else if reg_field m == 7 then compute Compare b m
    else Refuse

unfoldable pub store_immediate : Bool → ℕ → Reader
store_immediate b m = if reg_field m == 0 then operand b m (λ p. Number w32 (λ n. Done (Memory (Store (sources.Number (sign_extended n))) p))) else Refuse

unfoldable pub move_immediate : Bool → ℕ → Reader
move_immediate b op = with_reg (reg_of b (op - 0xB8)) (λ to. Number w64 (λ n. Done (Set to (sources.Number n))))

-- the opcode after REX with these bits R and B
unfoldable pub after_rex : Bool → Bool → ℕ → Reader
after_rex r b op =
    if op == 0x89 then Byte (move_from r b)
    else if op == 0x8B then Byte (register_and_memory (λ reg. Load reg) r b)
    else if op == 0x87 then exchange Exchange r b
    else if op == 0x81 then (if r then Refuse else Byte (arithmetic b))
    else if op == 0xC7 then (if r then Refuse else Byte (store_immediate b))
    else if nat_lt op 0xB8 then Refuse
    else if nat_lt op 0xC0 then (if r then Refuse else move_immediate b op)
    else Refuse

unfoldable pub first : ℕ → Reader
first b =
    if b == 0x90 then Done Nop
    else if b == 0xE9 then jump Always
    else if b == 0x0F then Byte after_0f
    else if b == 0x41 then after_41
    else if b == 0x66 then Byte after_66
    else if b == 0xF0 then Byte after_f0
    else if b == 0x48 then Byte (after_rex false false)
    else if b == 0x49 then Byte (after_rex false true)
    else if b == 0x4C then Byte (after_rex true false)
    else if b == 0x4D then Byte (after_rex true true)
    else Refuse

-- the instruction at the front
abbrev pub form_at : List ℕ → Result (Form × List ℕ) Miss
form_at bytes = run (Byte first) bytes
