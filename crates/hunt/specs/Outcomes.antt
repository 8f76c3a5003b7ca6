-- How schedules end.
use Rattle.std.specs.Prelude.{◌≡◌, ℕ, ◌+◌, Bool, ◌&&◌, List, drop, map, nat_eq, slice_index}
use Rattle.std.specs.Global.{Vec}
use Rattle.std.specs.List.{range_with_len}
use Rattle.std.specs.Cmp.Lexicographic.{pointwise}
use Rattle.lines_layout.specs.Shapes.{words_of}
use Rattle.isa.specs.Registers.{reg, registers}
use Rattle.isa.specs.declared.register.Regs.{Regs}
use Rattle.persist_buffer.specs.State.{Memory}
use Rattle.persist_buffer.specs.Memories.{coherent}
use Rattle.machine.specs.State.{Processor, State}
use Rattle.schedule.specs.declared.plan.Plan.{Plan}
use Rattle.schedule.specs.Schedules.{schedule_of}
use Rattle.hunt.specs.declared.observed.WordPair.{WordPair}

-- what is observed of a state
pub record Observed : Type 0 where
  -- the values of each processor's registers, in the order of `registers`
  pub registers : List (List ℕ)
  -- the values of each word of the shape, in order of number
  pub words : List WordPair

-- the values of a processor's registers
abbrev pub register_values : Regs → List ℕ
register_values regs = map (reg regs) registers

-- the coherent and the persisted value of a word
abbrev pub pair_of : Memory → ℕ → WordPair
pair_of m word = record { coherent = coherent m word; persisted = slice_index m.persisted word }

-- those of each processor's registers
abbrev pub registers_of : State → List (List ℕ)
registers_of s = map (λ (c : Processor). register_values c.regs) s.processors

-- those of each word of a shape
abbrev pub pairs_of : Memory → List ℕ → List WordPair
pairs_of m shape = map (pair_of m) (words_of shape)

-- the values of registers and of words that a state shows
abbrev pub observed : State → Observed
observed s = record { registers = registers_of s; words = pairs_of s.memory s.shape }

-- how the schedule of a plan that has this number ends, from a state
abbrev pub outcome_of : Plan → State → ℕ → Observed
outcome_of plan s number = observed (schedule_of plan number s).state

-- how so many schedules end, of which the first has this number
abbrev pub outcomes_from : Plan → State → ℕ → ℕ → List Observed
outcomes_from plan s first count = map (outcome_of plan s) (range_with_len first count)

-- These are how so many schedules end, of which the first has this number.
abbrev pub AreOutcomes : Plan → State → ℕ → ℕ → Vec Observed → Type 0
AreOutcomes plan s first count outcomes = outcomes.items ≡ outcomes_from plan s first count

-- how the schedules end whose numbers are below n
abbrev pub outcomes_below : Plan → State → ℕ → List Observed
outcomes_below plan s n = outcomes_from plan s 0 n

-- Those of the n schedules from a number on are those of all up to the last of them, without those before this number.
abbrev pub IsPartOfAll : Plan → State → ℕ → ℕ → Type 0
IsPartOfAll plan s first n = outcomes_from plan s first n ≡ drop first (outcomes_below plan s (first + n))

-- whether two words have the same values
abbrev pub is_same_pair : WordPair → WordPair → Bool
is_same_pair a b = nat_eq a.coherent b.coherent && nat_eq a.persisted b.persisted

-- whether two outcomes are the same
abbrev pub is_same : Observed → Observed → Bool
is_same a b = pointwise (pointwise nat_eq) a.registers b.registers && pointwise is_same_pair a.words b.words
