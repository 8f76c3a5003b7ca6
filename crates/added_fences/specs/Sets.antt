-- Sets of flushes and fences that are put into a program, the last first (`candidates`: with_all).
use Rattle.std.specs.Prelude.{◌≡◌, ◌⊎◌, ◌≤◌, true, Some, List, [], ◌∷◌, Contains, slice_get}
use Rattle.isa.specs.declared.instr.Access.{Access}
use Rattle.isa.specs.declared.instr.Access.TheVariants.{Flush}
use Rattle.isa.specs.declared.instr.FlushKind.{FlushKind}
use Rattle.isa.specs.declared.instr.Instr.TheVariants.{Memory}
use Rattle.isa.specs.declared.instr.MemoryOperand.{MemoryOperand}
use Rattle.isa.specs.Objects.{Object}
use Rattle.image_reasons.specs.declared.repair.Repair.{Repair}
use Rattle.image_reasons.specs.declared.repair.Side.TheVariants.{Behind}
use Rattle.image_reasons.specs.PutIn.{IsThere, code_there}
use Rattle.fewer_fences.specs.Thinner.{Thins, may_be_nop}
use Rattle.candidates.specs.Candidates.{operand_kept}

-- One instruction is to be put in no later than another: they are of other programs, or it is to stand behind the same instruction or behind an earlier one.
abbrev pub IsNoLater : Repair → Repair → Type 0
IsNoLater repair other = repair.site.processor ≡ other.site.processor → repair.site.recovering ≡ other.site.recovering → repair.site.place ≤ other.site.place

-- Those of one program are in the order of their places.
abbrev pub AreInOrder : List Repair → Type 0
AreInOrder [] = Unit {0}
AreInOrder (repair ∷ others) = ((other : Repair) → Contains others other → IsNoLater repair other) × AreInOrder others

-- It is a flush of what the instruction at its site accesses, by the same operand, which means the same address then.
pub record FlushesItsSite (object : Object) (repair : Repair) : Type 0 where
  pub kind : FlushKind
  pub operand : MemoryOperand
  pub is : repair.instr ≡ Memory (Flush kind) operand
  pub access : Access
  pub accesses : slice_get (code_there object repair) repair.site.place ≡ Some (Memory access operand)
  pub kept : operand_kept access operand ≡ true

-- It is a fence, or a flush of a word that it names by its address, or a flush of what the instruction at its site accesses; and it is to stand behind
-- that instruction.
pub record IsCandidate (object : Object) (repair : Repair) : Type 0 where
  pub may : (may_be_nop repair.instr ≡ true) ⊎ FlushesItsSite object repair
  pub side : repair.side ≡ Behind
  pub there : IsThere object repair

-- It is a fence, or a flush of a word that it names by its address, to stand anywhere; or it is a candidate.
abbrev pub MayBePutIn : Object → Repair → Type 0
MayBePutIn object repair = (may_be_nop repair.instr ≡ true) ⊎ IsCandidate object repair

-- a set of candidates, in their order
pub record IsSet (object : Object) (set : List Repair) : Type 0 where
  pub each : (repair : Repair) → Contains set repair → IsCandidate object repair
  pub order : AreInOrder set

-- a set, and one without some of its instructions, in the same order
abbrev pub IsWithin : List Repair → List Repair → Type 0
IsWithin more less = Thins (λ repair. true) more less
