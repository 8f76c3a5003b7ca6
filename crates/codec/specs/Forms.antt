-- The bytes of an instruction. Intel SDM, volume 2, the page of each instruction; one spelling of each.
use Rattle.std.specs.Prelude.{◌≡◌, ℕ, ℤ, ◌+◌, ◌*◌, ◌/◌, ◌%◌, ◌<◌, ◌^◌, if◌then◌else◌, nat_lt, List, [], ◌∷◌, ◌++◌, FitsSigned}
use Rattle.std.specs.Int.{w32, w64, to_le_bytes, cast_unsigned}
use Rattle.isa.specs.declared.register.Reg.{Reg}
use Rattle.isa.specs.declared.register.Reg.TheVariants.{Rax, Rcx, Rdx, Rbx, Rsi, Rdi, R8, R9}
use Rattle.isa.specs.declared.instr.Access.{Access}
use Rattle.isa.specs.declared.instr.Access.TheVariants.{Load, Store, Locked, Flush}
use Rattle.isa.specs.declared.instr.Computation.TheVariants.{Add, Compare}
use Rattle.isa.specs.declared.instr.FenceKind.TheVariants.{Mfence, Sfence}
use Rattle.isa.specs.declared.instr.FlushKind.TheVariants.{Clflush, Clflushopt, Clwb}
use Rattle.isa.specs.declared.instr.JumpKind.TheVariants.{Always, IfZero, IfNotZero}
use Rattle.isa.specs.declared.instr.LockedOperation.TheVariants.{Exchange, ExchangeAdd, CompareExchange}
use Rattle.isa.specs.declared.instr.Source.TheVariants as sources
use Rattle.isa.specs.Immediates.{sign_extended}
use Rattle.codec.specs.declared.form.Address.{Address}
use Rattle.codec.specs.declared.form.Address.TheVariants.{Absolute, Register}
use Rattle.codec.specs.declared.form.Form.{Form}
use Rattle.codec.specs.declared.form.Form.TheVariants.{Set, Compute, Jump, Nop, Memory, Fence}

-- a register's number
abbrev pub number : Reg → ℕ
number Rax = 0
number Rcx = 1
number Rdx = 2
number Rbx = 3
number Rsi = 6
number Rdi = 7
number R8 = 8
number R9 = 9

-- 48, with 4 more (R) where the reg field names r8 or r9, and 1 more (B) where rm or the opcode does
abbrev pub rex : ℕ → ℕ → ℕ
rex reg rm = 0x48 + 4 * (reg / 8) + rm / 8

-- two bits of mode, three of reg, three of rm: the low three bits of a register's number, or what else is there
abbrev pub modrm : ℕ → ℕ → ℕ → ℕ
modrm mode reg rm = 64 * mode + 8 * (reg % 8) + rm % 8

-- the number of the register that holds the address, 0 where the address is in the instruction
abbrev pub base : Address → ℕ
base (Absolute address) = 0
base (Register r) = number r

-- 41 (B) where r8 or r9 holds the address, in an instruction that has no other REX
abbrev pub short_rex : Address → List ℕ
short_rex m = if nat_lt (base m) 8 then [] else 0x41 ∷ []

-- a memory operand: ModRM with mode 0 and rm 4, SIB 25, and the address in 32 bits; or ModRM with mode 0 and the
-- register that holds the address
unfoldable pub memory : ℕ → Address → List ℕ
memory reg (Absolute address) = modrm 0 reg 4 ∷ 0x25 ∷ to_le_bytes w32 address
memory reg (Register r) = modrm 0 reg (number r) ∷ []

-- the low 32 bits of a number
unfoldable pub immediate : ℕ → List ℕ
immediate n = to_le_bytes w32 (n % 2 ^ 32)

-- a signed number of 32 bits
unfoldable pub distance : ℤ → List ℕ
distance d = to_le_bytes w32 (cast_unsigned w32 d)

-- the bytes of a form: a line for each instruction
unfoldable pub bytes_of : Form → List ℕ
bytes_of (Set r (sources.Number n)) = rex 0 (number r) ∷ (0xB8 + number r % 8) ∷ to_le_bytes w64 n
bytes_of (Set to (sources.Register from)) = rex (number from) (number to) ∷ 0x89 ∷ modrm 3 (number from) (number to) ∷ []
bytes_of (Compute Add r n) = rex 0 (number r) ∷ 0x81 ∷ modrm 3 0 (number r) ∷ immediate n
bytes_of (Compute Compare r n) = rex 0 (number r) ∷ 0x81 ∷ modrm 3 7 (number r) ∷ immediate n
bytes_of (Memory (Load r) m) = rex (number r) (base m) ∷ 0x8B ∷ memory (number r) m
bytes_of (Memory (Store (sources.Register r)) m) = rex (number r) (base m) ∷ 0x89 ∷ memory (number r) m
bytes_of (Memory (Store (sources.Number n)) m) = rex 0 (base m) ∷ 0xC7 ∷ (memory 0 m ++ immediate n)
bytes_of (Memory (Locked Exchange r) m) = rex (number r) (base m) ∷ 0x87 ∷ memory (number r) m
bytes_of (Memory (Locked ExchangeAdd r) m) = 0xF0 ∷ rex (number r) (base m) ∷ 0x0F ∷ 0xC1 ∷ memory (number r) m
bytes_of (Memory (Locked CompareExchange r) m) = 0xF0 ∷ rex (number r) (base m) ∷ 0x0F ∷ 0xB1 ∷ memory (number r) m
bytes_of (Memory (Flush Clflush) m) = short_rex m ++ (0x0F ∷ 0xAE ∷ memory 7 m)
bytes_of (Memory (Flush Clflushopt) m) = 0x66 ∷ (short_rex m ++ (0x0F ∷ 0xAE ∷ memory 7 m))
bytes_of (Memory (Flush Clwb) m) = 0x66 ∷ (short_rex m ++ (0x0F ∷ 0xAE ∷ memory 6 m))
bytes_of (Fence Mfence) = 0x0F ∷ 0xAE ∷ 0xF0 ∷ []
bytes_of (Fence Sfence) = 0x0F ∷ 0xAE ∷ 0xF8 ∷ []
bytes_of (Jump Always d) = 0xE9 ∷ distance d
bytes_of (Jump IfZero d) = 0x0F ∷ 0x84 ∷ distance d
bytes_of (Jump IfNotZero d) = 0x0F ∷ 0x85 ∷ distance d
bytes_of Nop = 0x90 ∷ []

abbrev pub AddressFits : Address → Type 0
AddressFits (Absolute address) = address < 2 ^ 32
AddressFits (Register r) = Unit {0}

-- The number is 32 bits that are extended by their sign.
abbrev pub ImmediateFits : ℕ → Type 0
ImmediateFits n = sign_extended (n % 2 ^ 32) ≡ n

abbrev pub AccessFits : Access → Type 0
AccessFits (Store (sources.Number n)) = ImmediateFits n
AccessFits _ = Unit {0}

-- The numbers fit their fields.
abbrev pub Fits : Form → Type 0
Fits (Set r (sources.Number n)) = n < 2 ^ 64
Fits (Compute operation r n) = ImmediateFits n
Fits (Jump kind d) = FitsSigned w32 d
Fits (Memory access m) = AccessFits access × AddressFits m
Fits _ = Unit {0}
