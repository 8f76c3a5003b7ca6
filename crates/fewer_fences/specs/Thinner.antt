-- Programs, and states that they lead to, beside the same with fewer flushes and fences.
use Rattle.std.specs.Prelude.{◌≡◌, ◌⊎◌, ℕ, ◌≤◌, Bool, true, false, ◌&&◌, Some, List, [], ◌∷◌, length, slice_get}
use Rattle.isa.specs.declared.instr.Access.TheVariants.{Flush}
use Rattle.isa.specs.declared.instr.Instr.{Instr}
use Rattle.isa.specs.declared.instr.Instr.TheVariants.{Memory, Fence, Nop}
use Rattle.isa.specs.declared.instr.MemoryOperand.TheVariants.{Word}
use Rattle.isa.specs.declared.programs.Programs.{Programs}
use Rattle.isa.specs.Loadables.{names_its_words}
use Rattle.isa.specs.Objects.{Object}
use Rattle.store_buffer.specs.declared.entry.Entry.{Entry}
use Rattle.store_buffer.specs.declared.entry.Entry.TheVariants as entries
use Rattle.persist_buffer.specs.Memories.{is_marker}
use Rattle.persist_buffer.specs.State as persist_buffer
use Rattle.machine.specs.State.{Processor, State}

-- ---- lists

-- A list, and the same without some of its entries that pass a test.
abbrev pub Thins : {A : Type 0} → (A → Bool) → List A → List A → Type 0
Thins may [] less = less ≡ []
Thins {A} may (entry ∷ more) less = ((rest : List A) × (less ≡ entry ∷ rest) × Thins may more rest) ⊎ ((may entry ≡ true) × Thins may more less)

-- Two lists of one length: place by place an entry of the one and an entry of the other are so to each other.
pub record AreByPlace {A : Type 0} (Are : A → A → Type 0) (these others : List A) : Type 0 where
  pub count : length others ≡ length these
  pub each : (place : ℕ) (this other : A) → slice_get these place ≡ Some this → slice_get others place ≡ Some other → Are this other

-- ---- programs

-- whether an instruction may be a nop: it is a fence, or a flush of a word that it names by its address
abbrev pub may_be_nop : Instr → Bool
may_be_nop (Memory (Flush kind) (Word word)) = true
may_be_nop (Fence kind) = true
may_be_nop _ = false

-- the same where it names no word but those of a shape, as is so of each instruction of a program that can be loaded: so it never traps
abbrev pub may_be_nop_on : List ℕ → Instr → Bool
may_be_nop_on shape instr = may_be_nop instr && names_its_words shape instr

-- an instruction, and itself; or a nop in place of one that passes a test
abbrev pub IsOrIsNop : (Instr → Bool) → Instr → Instr → Type 0
IsOrIsNop may instr other = (other ≡ instr) ⊎ ((may instr ≡ true) × (other ≡ Nop))

-- Code, and the same with nops in place of some instructions that pass a test.
abbrev pub HasNops : (Instr → Bool) → List Instr → List Instr → Type 0
HasNops may more less = AreByPlace (IsOrIsNop may) more less

-- the two programs of a processor, and the same so
pub record HaveNops (may : Instr → Bool) (more less : Programs) : Type 0 where
  pub main : HasNops may more.main less.main
  pub recovery : HasNops may more.recovery less.recovery

-- A program, and the same with nops in place of some of its flushes and fences, in any programs of any processors.
pub record AreFewer (more less : Object) : Type 0 where
  pub layout : less.layout ≡ more.layout
  pub values : less.values ≡ more.values
  pub processors : AreByPlace (HaveNops may_be_nop) more.processors less.processors

-- ---- states

-- whether an entry of a store buffer is no write: it is a flush, or an sfence
abbrev pub is_no_write : Entry → Bool
is_no_write (entries.Write word value) = false
is_no_write (entries.Flush line) = true
is_no_write (entries.FlushOpt line) = true
is_no_write entries.Sfence = true

-- A processor, and one with fewer flushes and fences in its programs and in its store buffer. All else is the same: its place, registers, flags and trap.
pub record IsThinnerProcessor (shape : List ℕ) (more less : Processor) : Type 0 where
  pub main : HasNops (may_be_nop_on shape) more.main less.main
  pub recovery : HasNops (may_be_nop_on shape) more.recovery less.recovery
  pub recovering : less.recovering ≡ more.recovering
  pub place : less.place ≡ more.place
  pub regs : less.regs ≡ more.regs
  pub trap : less.trap ≡ more.trap
  pub buffer : Thins is_no_write more.buffer less.buffer

-- A memory, and one with fewer markers. All else is the same: so no word has another coherent or persisted value.
pub record IsThinnerMemory (more less : persist_buffer.Memory) : Type 0 where
  pub pending : Thins is_marker more.pending less.pending
  pub persisted : less.persisted ≡ more.persisted

-- A state, and a thinner one: with fewer flushes and fences in programs and store buffers and fewer markers, after no more steps, of which as many were
-- crashes. All else is the same.
pub record IsThinner (more less : State) : Type 0 where
  pub turns : less.turns ≤ more.turns
  pub crashes : less.crashes ≡ more.crashes
  pub shape : less.shape ≡ more.shape
  pub processors : AreByPlace (IsThinnerProcessor more.shape) more.processors less.processors
  pub memory : IsThinnerMemory more.memory less.memory
