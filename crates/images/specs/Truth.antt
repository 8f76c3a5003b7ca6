-- Whether a condition holds in a machine's state, and in its images.
use Rattle.std.specs.Prelude.{ℕ, Bool, not, Option, Some, None, List, option_map, slice_get, slice_index, if◌then◌else◌}
use Rattle.lines_layout.specs.Lines.{has_word}
use Rattle.isa.specs.Registers.{reg}
use Rattle.persist_buffer.specs.Memories.{coherent}
use Rattle.machine.specs.State.{State}
use Rattle.images.specs.Images.{value_of}
use Rattle.conditions.specs.declared.cond.Operand.{Operand}
use Rattle.conditions.specs.declared.cond.Operand.TheVariants.{Persisted, Coherent, Register}
use Rattle.conditions.specs.Formulas.{Formula}
use Rattle.conditions.specs.Truth.{holds_by}

-- the value of an operand, where the word or the processor is there
abbrev pub value_in : State → Operand → Option ℕ
value_in s (Persisted word) = if has_word s.shape word then Some (slice_index s.memory.persisted word) else None
value_in s (Coherent word) = if has_word s.shape word then Some (coherent s.memory word) else None
value_in s (Register p r) = option_map (λ c. reg c.regs r) (slice_get s.processors p)

-- whether a formula holds in a state
abbrev pub holds_in : State → Formula → Bool
holds_in s f = holds_by (value_in s) f

-- the value of an operand, where an image is read as the persisted values; the state has the others
abbrev pub value_on : State → List ℕ → Operand → Option ℕ
value_on s image (Persisted word) = value_of s.shape image word
value_on s image (Coherent word) = value_in s (Coherent word)
value_on s image (Register p r) = value_in s (Register p r)

-- whether a formula holds where an image is read as the persisted values
abbrev pub holds_on : State → Formula → List ℕ → Bool
holds_on s f image = holds_by (value_on s image) f

-- whether it does not
abbrev pub fails_on : State → Formula → List ℕ → Bool
fails_on s f = λ image. not (holds_on s f image)

-- whether it does hold there, or does not, as is wanted
abbrev pub answers : Bool → State → Formula → List ℕ → Bool
answers wanted s f image = if wanted then holds_on s f image else not (holds_on s f image)

-- the state with other persisted values
abbrev pub with_persisted : State → List ℕ → State
with_persisted s persisted = record s { memory = record s.memory { persisted = persisted } }
