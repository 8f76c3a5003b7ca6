-- What ends come to: traps, registers and words.
use Rattle.std.specs.Prelude.{◌≡◌, ◌↔◌, ℕ, Bool, Option, Some, None, List, [], ◌∷◌, ◌++◌, Contains, map, slice_get}
use Rattle.std.specs.Option.{option_map_or}
use Rattle.std.specs.List.Sorted.{IsStrictlySortedBy}
use Rattle.std.specs.Ordering.{nat_cmp}
use Rattle.std.specs.Cmp.Lexicographic.{slice_cmp}
use Rattle.isa.specs.Registers.{reg, registers}
use Rattle.machine.specs.State.{Processor, State}
use Rattle.images.specs.Images.{image_at}
use Rattle.explore.specs.Ends.{IsEndOf}

-- two numbers for an address, if there is one
abbrev pub trap_numbers : Option ℕ → List ℕ
trap_numbers None = 0 ∷ 0 ∷ []
trap_numbers (Some address) = 1 ∷ address ∷ []

-- of a processor: whether and where it is trapped, and its eight registers
abbrev pub processor_outcome : Processor → List ℕ
processor_outcome c = trap_numbers c.trap ++ map (reg c.regs) registers

-- that of processor p, if there is one
abbrev pub outcome_at : State → ℕ → List ℕ
outcome_at t p = option_map_or processor_outcome (slice_get t.processors p) []

-- that of each processor
abbrev pub processors_outcome : List Processor → List ℕ
processors_outcome [] = []
processors_outcome (c ∷ cpus) = processor_outcome c ++ processors_outcome cpus

-- that of the processors of a state
abbrev pub cpus_outcome : State → List ℕ
cpus_outcome t = processors_outcome t.processors

-- What an end comes to, as a list of numbers: ten of each processor, and the value of each word.
abbrev pub outcome_of : State → List ℕ
outcome_of t = cpus_outcome t ++ image_at t.shape t.memory.persisted

-- The outcomes of all ends, after a crash or before the first one: ascending, each once, and nothing else.
pub record AreOutcomes (crashes recovered : Bool) (start : State) (outcomes : List (List ℕ)) : Type 0 where
  pub exact : (outcome : List ℕ) → Contains outcomes outcome ↔ ((t : State) × IsEndOf crashes recovered start t × (outcome_of t ≡ outcome))
  pub ascending : IsStrictlySortedBy (slice_cmp nat_cmp) outcomes
