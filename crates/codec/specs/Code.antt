-- The bytes of a program.
use Rattle.std.specs.Prelude.{◌≡◌, ℕ, suc, ◌*◌, ℤ, pos, ◌-ℤ◌, true, List, [], ◌∷◌, IfSome, length, take}
use Rattle.std.specs.List.{flat_map, sum_by, list_all, AllByRecursion}
use Rattle.lines_layout.specs.Lines.{address_of}
use Rattle.isa.specs.declared.instr.Instr.{Instr}
use Rattle.isa.specs.declared.instr.Instr.TheVariants as instrs
use Rattle.isa.specs.declared.instr.MemoryOperand.{MemoryOperand}
use Rattle.isa.specs.declared.instr.MemoryOperand.TheVariants as operands
use Rattle.isa.specs.Operands.{target_of}
use Rattle.isa.specs.Programs.{is_program, max_instructions}
use Rattle.isa.specs.Loadables.{names_its_words}
use Rattle.codec.specs.declared.form.Address.{Address}
use Rattle.codec.specs.declared.form.Address.TheVariants.{Absolute, Register}
use Rattle.codec.specs.declared.form.Form.{Form}
use Rattle.codec.specs.declared.form.Form.TheVariants.{Set, Compute, Jump, Nop, Memory, Fence}
use Rattle.codec.specs.Forms.{bytes_of, Fits}

-- how many bytes the code of a program may have: no instruction takes more than 12
abbrev pub max_code : ℕ
max_code = 12 * max_instructions

-- what a form names for the memory operand of an instruction
abbrev pub memory_address : MemoryOperand → Address
memory_address (operands.Word word) = Absolute (address_of word)
memory_address (operands.Register r) = Register r

-- the form of an instruction, where `away t` is the distance to instruction t
unfoldable pub form_of : (ℕ → ℤ) → Instr → Form
form_of away (instrs.Set r source) = Set r source
form_of away (instrs.Compute operation r n) = Compute operation r n
form_of away (instrs.Jump kind t) = Jump kind (away t)
form_of away instrs.Nop = Nop
form_of away (instrs.Memory access m) = Memory access (memory_address m)
form_of away (instrs.Fence kind) = Fence kind

-- the target of the instruction, if it has one, is this far away
abbrev pub IsAway : (ℕ → ℤ) → Instr → ℤ → Type 0
IsAway away instr distance = IfSome (target_of instr) (λ t. away t ≡ distance)

-- the distance from instruction `next`, where instruction t begins at `at t`
abbrev pub distance_from : (ℕ → ℕ) → ℕ → ℕ → ℤ
distance_from at next t = pos (at t) -ℤ pos (at next)

-- how many bytes an instruction takes, whatever its distance
abbrev pub size : Instr → ℕ
size instr = length (bytes_of (form_of (λ t. pos 0) instr))

-- the offset at which instruction t begins, or the code's length where t is the program's
abbrev pub start : List Instr → ℕ → ℕ
start program t = sum_by size (take t program)

-- the forms of instructions of which the first has the number k, where instruction t begins at `at t`: a distance
-- counts from the beginning of the next instruction
abbrev pub forms_at : (ℕ → ℕ) → ℕ → List Instr → List Form
forms_at at k [] = []
forms_at at k (instr ∷ rest) = form_of (distance_from at (suc k)) instr ∷ forms_at at (suc k) rest

abbrev pub forms_of : List Instr → List Form
forms_of program = forms_at (start program) 0 program

-- the bytes of the forms, one after another
unfoldable pub code_of : List Instr → List ℕ
code_of program = flat_map bytes_of (forms_of program)

-- The program has a code on this shape.
pub record HasCode (shape : List ℕ) (program : List Instr) : Type 0 where
  pub sound : is_program program ≡ true
  pub words : list_all (names_its_words shape) program ≡ true
  pub fits : AllByRecursion Fits (forms_of program)

-- These bytes are the code of the program on this shape.
pub record IsCode (shape : List ℕ) (program : List Instr) (bytes : List ℕ) : Type 0 where
  pub has : HasCode shape program
  pub same : bytes ≡ code_of program
