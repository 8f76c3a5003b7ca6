-- The program that each processor runs, and where it is in it.
use Rattle.std.specs.Prelude.{ℕ, ◌+◌, ◌==◌, Bool, if◌then◌else◌, Option, Some, None, option_map, List, [], ◌∷◌, ◌++◌, codes, decimal, length}
use Rattle.lines_layout.specs.Names.{Text}
use Rattle.isa.specs.declared.instr.Instr.{Instr}
use Rattle.isa.specs.declared.programs.Programs.{Programs}
use Rattle.litmus_text.specs.declared.text_lines.LinedObject.{LinedObject}
use Rattle.litmus_text.specs.TextLines.{line_at}
use Rattle.machine.specs.State.{State, processor_at}
use Rattle.commands.specs.StateTexts.{end_of_line, site_text}
use Rattle.commands.specs.TriedTexts.{instruction_text}

-- the texts of items, one after another, by their places, where the first has the place i
abbrev pub placed_texts : {A : Type 0} → (ℕ → A → Text) → ℕ → List A → Text
placed_texts text_of i [] = []
placed_texts text_of i (x ∷ later) = text_of i x ++ placed_texts text_of (i + 1) later

-- what is before a place: a mark, where the processor is there
abbrev pub mark_text : Bool → Text
mark_text is_here = if is_here then codes "> " else codes "  "

-- on which line of its text an instruction stands, if it stands on one
abbrev pub behind_line : Option ℕ → Text
behind_line (Some number) = codes " line " ++ decimal number
behind_line None = []

-- an instruction of a program of processor p, which is at the place `at`
abbrev pub instruction_line : LinedObject → ℕ → Bool → ℕ → ℕ → Instr → Text
instruction_line lined p recovery at place instr =
    mark_text (place == at) ++ decimal place ++ behind_line (line_at lined.lines p recovery place) ++ codes ": "
    ++ instruction_text lined.object.layout instr ++ end_of_line

-- the end of a program of so many instructions, where the processor is there
abbrev pub end_text : ℕ → ℕ → Text
end_text at count = if count == at then (codes "> " ++ decimal count ++ codes ": end" ++ end_of_line) else []

-- where processor p is, and the program that it runs
abbrev pub program_text : LinedObject → ℕ → Bool → ℕ → List Instr → Text
program_text lined p recovery at program =
    site_text p recovery at ++ end_of_line ++ placed_texts (instruction_line lined p recovery at) 0 program ++ end_text at (length program)

-- one of two programs
abbrev pub one_of : Bool → Programs → List Instr
one_of recovery programs = if recovery then programs.recovery else programs.main

-- the same of a processor with these programs, if it is known which of them it runs, and where it is
abbrev pub processor_text : LinedObject → ℕ → Programs → Option Bool → Option ℕ → Text
processor_text lined p programs None at = []
processor_text lined p programs (Some recovery) None = []
processor_text lined p programs (Some recovery) (Some at) = program_text lined p recovery at (one_of recovery programs)

-- the same of processor p of a state
abbrev pub listed_at : LinedObject → State → ℕ → Programs → Text
listed_at lined s p programs =
    processor_text lined p programs (option_map (λ c. c.recovering) (processor_at s p)) (option_map (λ c. c.place) (processor_at s p))

-- the same of each processor
abbrev pub list_text : LinedObject → State → Text
list_text lined s = placed_texts (listed_at lined s) 0 lined.object.processors
