-- A program with some of what may be put in, and what that costs.
use Rattle.std.specs.Prelude.{ℕ, Option, Some, List, [], ◌∷◌, map}
use Rattle.std.specs.List.{sum_by}
use Rattle.std.specs.Option.{option_and_then}
use Rattle.isa.specs.declared.instr.FenceKind.TheVariants.{Mfence}
use Rattle.isa.specs.declared.instr.Access.TheVariants.{Flush}
use Rattle.isa.specs.declared.instr.FlushKind.TheVariants.{Clflush}
use Rattle.isa.specs.declared.instr.Instr.{Instr}
use Rattle.isa.specs.declared.instr.Instr.TheVariants.{Fence, Memory}
use Rattle.isa.specs.Objects.{Object}
use Rattle.image_reasons.specs.declared.repair.Repair.{Repair}
use Rattle.image_reasons.specs.Repairs.{repaired}

-- what an instruction costs that is put in: a clflush and an mfence wait for more than the others
abbrev pub cost_of : Instr → ℕ
cost_of (Memory (Flush Clflush) operand) = 2
cost_of (Fence Mfence) = 2
cost_of _ = 1

-- what instructions cost that are put in
abbrev pub cost : List Repair → ℕ
cost set = sum_by (λ (repair : Repair). cost_of repair.instr) set

-- what each of these costs
abbrev pub costs_of : List Repair → List ℕ
costs_of candidates = map (λ (repair : Repair). cost_of repair.instr) candidates

-- The object with these instructions. The last is put in first, so the places of those before it are as they were.
abbrev pub with_all : List Repair → Object → Option Object
with_all [] object = Some object
with_all (repair ∷ others) object = option_and_then (λ changed. repaired changed repair) (with_all others object)
