-- On which line of its text an instruction stands, where there is such a text.
use Rattle.std.specs.Prelude.{ℕ, ◌-◌, Bool, if◌then◌else◌, Option, None, Some, option_map, unwrap_or, List, map, slice_get}
use Rattle.std.specs.Option.{option_and_then}
use Rattle.litmus_text.specs.SourceLines.{ProgramLines}

-- the lines of a program's instructions, processor by processor; None where there is no text, as of an object file
abbrev pub TextLines : Type 0
TextLines = Option (List ProgramLines)

-- the lines of one of the two programs of a processor
abbrev pub lines_in : Bool → ProgramLines → List ℕ
lines_in recovery lines = if recovery then lines.recovery else lines.main

-- the line of the instruction at a place of a program of processor p; None where there is no instruction, or no text
abbrev pub line_at : TextLines → ℕ → Bool → ℕ → Option ℕ
line_at None p recovery place = None
line_at (Some processors) p recovery place = option_and_then (λ lines. slice_get (lines_in recovery lines) place) (slice_get processors p)

-- ---- lines of a text that was made of another

-- the line that stands for line n, counted from 1, where `numbers` has that of each; n itself where it has none
abbrev pub line_numbered : List ℕ → ℕ → ℕ
line_numbered numbers n = unwrap_or (slice_get numbers (n - 1)) n

-- the same of each line of a processor
abbrev pub programs_numbered : List ℕ → ProgramLines → ProgramLines
programs_numbered numbers lines = record { main = map (line_numbered numbers) lines.main; recovery = map (line_numbered numbers) lines.recovery }

-- and of all
abbrev pub renumbered : List ℕ → TextLines → TextLines
renumbered numbers lines = option_map (map (programs_numbered numbers)) lines
