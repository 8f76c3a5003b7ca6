-- Which step of a list is refused, and what is there.
use Rattle.std.specs.Prelude.{◌≡◌, ℕ, Bool, false, Option, Some, None, List, slice_get, ◌==◌}
use Rattle.std.specs.Option.{option_and_then, option_map}
use Rattle.lines_layout.specs.Lines.{address_of, line_of, word_at}
use Rattle.isa.specs.declared.instr.MemoryOperand.{MemoryOperand}
use Rattle.isa.specs.declared.instr.MemoryOperand.TheVariants.{Register, Word}
use Rattle.isa.specs.Operands.{operand_of}
use Rattle.isa.specs.Registers.{reg}
use Rattle.store_buffer.specs.declared.entry.Entry.{Entry}
use Rattle.store_buffer.specs.declared.entry.Entry.TheVariants as entries
use Rattle.machine.specs.declared.step.Step.{Step}
use Rattle.machine.specs.declared.step.Step.TheVariants.{Drain, Exec}
use Rattle.machine.specs.Processors.{instruction_at}
use Rattle.machine.specs.State.{State}
use Rattle.machine.specs.Steps.{run_of}
use Rattle.explanations.specs.declared.refused.Refused.{Refused}

-- a run of these steps ends with this refusal of the step at this place
pub record IsRefused (steps : List Step) (s : State) (r : Refused) : Type 0 where
  pub place : (run_of steps s).accepted ≡ r.place
  pub step : slice_get steps r.place ≡ Some r.step
  pub refusal : (run_of steps s).refusal ≡ Some r.refusal

-- the entry at place i of the store buffer of processor p
abbrev pub entry_at : State → ℕ → ℕ → Option Entry
entry_at s p i = option_and_then (λ c. slice_get c.buffer i) (slice_get s.processors p)

-- whether an entry is a write of a line
abbrev pub is_delayed_write_on : ℕ → Entry → Bool
is_delayed_write_on line (entries.Write word value) = line_of word == line
is_delayed_write_on line _ = false

-- the line of the word that an entry writes, if it is a write
abbrev pub line_written : Entry → Option ℕ
line_written (entries.Write word value) = Some (line_of word)
line_written _ = None

-- the address that an operand means on processor p
abbrev pub address_at : State → ℕ → MemoryOperand → Option ℕ
address_at s p (Word word) = Some (address_of word)
address_at s p (Register r) = option_map (λ c. reg c.regs r) (slice_get s.processors p)

-- the line of the word that the instruction at the place of processor p means, if it means one
abbrev pub line_meant_of : State → ℕ → Option ℕ
line_meant_of s p =
    let address = option_and_then (address_at s p) (option_and_then operand_of (instruction_at s p)) in
    option_map line_of (option_and_then (word_at s.shape) address)

-- the line for whose write a step asks room, if it asks any
abbrev pub line_wanted_of : State → Step → Option ℕ
line_wanted_of s (Exec p) = line_meant_of s p
line_wanted_of s (Drain p i) = option_and_then line_written (entry_at s p i)
line_wanted_of s _ = None
