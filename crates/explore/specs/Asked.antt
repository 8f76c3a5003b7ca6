-- How many candidates of a state are tried: those of all lines, or of the lines that the condition asks.
use Rattle.std.specs.Prelude.{ℕ, Bool, true, false, Option, Some, None, List, [], ◌∷◌, if◌then◌else◌}
use Rattle.lines_layout.specs.Lines.{line_of}
use Rattle.persist_buffer.specs.declared.entry.PendingEntry.{PendingEntry}
use Rattle.persist_buffer.specs.declared.entry.PendingEntry.TheVariants.{Write, Marker}
use Rattle.pending_images.specs.Candidates.{candidates}
use Rattle.machine.specs.State.{State}
use Rattle.conditions.specs.Formulas.{Formula}
use Rattle.conditions.specs.Truth.{asks_line}

-- a pending list without the writes of lines that are not asked; its markers stay
abbrev pub only_on : (ℕ → Bool) → List PendingEntry → List PendingEntry
only_on asked [] = []
only_on asked (Write word value ∷ later) = if asked (line_of word) then Write word value ∷ only_on asked later else only_on asked later
only_on asked (Marker line ∷ later) = Marker line ∷ only_on asked later

-- the lines that a condition asks
abbrev pub asked_by : Formula → ℕ → Bool
asked_by condition line = asks_line line condition

-- the candidates of a state over the lines that a condition asks
abbrev pub asked_candidates : Formula → State → ℕ
asked_candidates condition s = candidates (only_on (asked_by condition) s.memory.pending)

-- the candidates of a state that are tried: where each image is listed all of them; elsewhere those of the lines that the condition asks
abbrev pub tried_candidates : Bool → Option Formula → State → ℕ
tried_candidates true condition s = candidates s.memory.pending
tried_candidates false None s = candidates s.memory.pending
tried_candidates false (Some condition) s = asked_candidates condition s
