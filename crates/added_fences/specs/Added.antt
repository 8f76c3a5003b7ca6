-- Programs, and states that they lead to, beside the same without some flushes and fences that were put in.
use Rattle.std.specs.Prelude.{◌≡◌, ◌⊎◌, ℕ, ◌+◌, ◌<◌, ◌≤◌, Bool, true, false, None, Some, List, slice_get}
use Rattle.lines_layout.specs.Lines.{word_at}
use Rattle.isa.specs.declared.instr.Access.{Access}
use Rattle.isa.specs.declared.instr.Access.TheVariants.{Flush}
use Rattle.isa.specs.declared.instr.FlushKind.{FlushKind}
use Rattle.isa.specs.declared.instr.Instr.{Instr}
use Rattle.isa.specs.declared.instr.Instr.TheVariants.{Fence, Jump, Memory}
use Rattle.isa.specs.declared.instr.JumpKind.{JumpKind}
use Rattle.isa.specs.declared.instr.MemoryOperand.{MemoryOperand}
use Rattle.isa.specs.declared.programs.Programs.{Programs}
use Rattle.isa.specs.declared.register.Regs.{Regs}
use Rattle.isa.specs.Objects.{Object}
use Rattle.isa.specs.Operands.{address_meant}
use Rattle.machine.specs.Processors.{programs_of}
use Rattle.machine.specs.State.{Processor, State}
use Rattle.image_reasons.specs.Repairs.{code_of}
use Rattle.fewer_fences.specs.Thinner.{AreByPlace, IsThinnerMemory, Thins, is_no_write, may_be_nop, may_be_nop_on}
use Rattle.candidates.specs.Candidates.{operand_kept}

-- ---- flushes of what was accessed

-- whether an instruction is a fence or a flush: it leaves the registers as they are
abbrev pub is_flush_or_fence : Instr → Bool
is_flush_or_fence (Memory (Flush kind) operand) = true
is_flush_or_fence (Fence kind) = true
is_flush_or_fence _ = false

-- A place of some code is behind an access by an operand, which means the same address then. Only fences and flushes stand between, and no jump leads
-- between or to the place. So whoever comes there has just accessed a word by that operand.
pub record IsBehindAccess (code : List Instr) (operand : MemoryOperand) (place : ℕ) : Type 0 where
  -- where the access is
  pub site : ℕ
  pub access : Access
  pub there : slice_get code site ≡ Some (Memory access operand)
  pub kept : operand_kept access operand ≡ true
  pub before : site < place
  pub between : (i : ℕ) → site < i → i < place → (instr : Instr) × (slice_get code i ≡ Some instr) × (is_flush_or_fence instr ≡ true)
  pub passed : (i target : ℕ) (kind : JumpKind) → slice_get code i ≡ Some (Jump kind target) → (target ≤ site) ⊎ (place < target)

-- An instruction of some code is a flush of what an access before it accessed.
pub record FlushesAgain (code : List Instr) (place : ℕ) (instr : Instr) : Type 0 where
  pub kind : FlushKind
  pub operand : MemoryOperand
  pub is : instr ≡ Memory (Flush kind) operand
  pub behind : IsBehindAccess code operand place

-- With these registers an operand means a word of a shape.
abbrev pub MeansWord : List ℕ → Regs → MemoryOperand → Type 0
MeansWord shape regs operand = (word : ℕ) × (word_at shape (address_meant regs operand) ≡ Some word)

-- ---- code

-- A place of some code stands for a place of other code: it is led back to that one, or no instruction is at either.
abbrev pub StandsFor : (ℕ → ℕ) → List Instr → List Instr → ℕ → ℕ → Type 0
StandsFor back more less place other = (other ≡ back place) ⊎ ((slice_get more place ≡ None) × (slice_get less other ≡ None))

-- an instruction, and itself; or a jump, and one to the place for which its target stands
abbrev pub IsLedBack : (ℕ → ℕ → Type 0) → Instr → Instr → Type 0
IsLedBack Stands (Jump kind target) other = (new : ℕ) × (other ≡ Jump kind new) × Stands target new
IsLedBack Stands instr other = other ≡ instr

-- An instruction of some code never traps and changes no value: it passes a test, or it is a flush of what an access before it accessed.
abbrev pub OrdersAlone : (Instr → Bool) → List Instr → ℕ → Instr → Type 0
OrdersAlone may code place instr = (may instr ≡ true) ⊎ FlushesAgain code place instr

-- An instruction that was put in: it may be, and the next place is led back to where its own is.
pub record IsPutIn (May : ℕ → Instr → Type 0) (back : ℕ → ℕ) (place : ℕ) (instr : Instr) : Type 0 where
  pub passes : May place instr
  pub next : back (place + 1) ≡ back place

-- An instruction that was there: it is at the place that its own is led back to, and the next place is led back to the one behind that.
pub record WasThere (back : ℕ → ℕ) (more less : List Instr) (place : ℕ) (instr : Instr) : Type 0 where
  pub other : Instr
  pub there : slice_get less (back place) ≡ Some other
  pub alike : IsLedBack (StandsFor back more less) instr other
  pub next : back (place + 1) ≡ back place + 1

-- Code, and the same without some of its instructions, each of which passes a test or is a flush of what an access before it accessed: those behind them
-- are as much nearer, and jumps are led back.
pub record HasAdded (may : Instr → Bool) (more less : List Instr) : Type 0 where
  -- the place that a place is led back to
  pub back : ℕ → ℕ
  pub start : back 0 ≡ 0
  pub each : (place : ℕ) (instr : Instr) → slice_get more place ≡ Some instr → IsPutIn (OrdersAlone may more) back place instr ⊎ WasThere back more less place instr
  pub end : (place : ℕ) → slice_get more place ≡ None → slice_get less (back place) ≡ None

-- ---- programs

-- The main program and the recovery program of a processor, and the same so.
abbrev pub HaveAdded : (Instr → Bool) → Programs → Programs → Type 0
HaveAdded may more less = (recovering : Bool) → HasAdded may (code_of recovering more) (code_of recovering less)

-- A program, and the same without some of its fences and of its flushes, in any programs of any processors. A flush is of a word that it names by its
-- address, or of what an access before it accessed.
pub record AreAdded (more less : Object) : Type 0 where
  pub layout : less.layout ≡ more.layout
  pub values : less.values ≡ more.values
  pub processors : AreByPlace (HaveAdded may_be_nop) more.processors less.processors

-- ---- states

-- A processor that is behind an access by an operand means a word by it.
abbrev pub CanAccessAgain : List ℕ → Processor → Type 0
CanAccessAgain shape c =
    (operand : MemoryOperand) → IsBehindAccess (code_of c.recovering (programs_of c)) operand c.place → MeansWord shape c.regs operand

-- A processor, and one without some flushes and fences of its programs and of its store buffer. Its place is the one that the other's stands for. All
-- else is the same: its registers, flags and trap. Where it is behind an access, it has accessed a word.
pub record IsLeanerProcessor (shape : List ℕ) (more less : Processor) : Type 0 where
  pub code : HaveAdded (may_be_nop_on shape) (programs_of more) (programs_of less)
  pub recovering : less.recovering ≡ more.recovering
  pub place : StandsFor (code more.recovering).back (code_of more.recovering (programs_of more)) (code_of more.recovering (programs_of less)) more.place less.place
  pub regs : less.regs ≡ more.regs
  pub trap : less.trap ≡ more.trap
  pub buffer : Thins is_no_write more.buffer less.buffer
  pub again : CanAccessAgain shape more

-- A state, and a leaner one: without some flushes and fences in programs and store buffers and without some markers, after no more steps, of which as
-- many were crashes. All else is the same.
pub record IsLeaner (more less : State) : Type 0 where
  pub turns : less.turns ≤ more.turns
  pub crashes : less.crashes ≡ more.crashes
  pub shape : less.shape ≡ more.shape
  pub processors : AreByPlace (IsLeanerProcessor more.shape) more.processors less.processors
  pub memory : IsThinnerMemory more.memory less.memory
