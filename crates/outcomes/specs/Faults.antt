-- A fault, or want of memory: the fault that an error stands for, and what is printed.
use Rattle.std.specs.Prelude.{◌≡◌, ℕ, Option, Some, None, List, codes}
use Rattle.outcomes.specs.declared.or_no_memory.OrNoMemory.{OrNoMemory}
use Rattle.outcomes.specs.declared.or_no_memory.OrNoMemory.TheVariants.{Fault, NoMemory}

-- the fault that an error stands for, None where memory ran out
abbrev pub fault_in : {F : Type 0} → OrNoMemory F → Option F
fault_in (Fault fault) = Some fault
fault_in NoMemory = None

-- the error stands for this fault, said in other words
abbrev pub IsSaid : {F G : Type 0} → (F → G → Type 0) → F → OrNoMemory G → Type 0
IsSaid {F} {G} SaidAs fault error = (said : G) × SaidAs fault said × (error ≡ Fault said)

-- what is printed of an error, where this is printed of its fault
abbrev pub error_text : {F : Type 0} → (F → Option (List ℕ)) → OrNoMemory F → Option (List ℕ)
error_text text (Fault fault) = text fault
error_text text NoMemory = Some (codes "out of memory")
