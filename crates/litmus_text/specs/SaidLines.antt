-- Which line of a litmus text says which instruction.
use Rattle.std.specs.Prelude.{◌≡◌, ℕ, ◌+◌, ◌⊎◌, List, [], ◌∷◌, ◌++◌, length, codes}
use Rattle.text_tokens.specs.Text.{tokens_of}
use Rattle.isa.specs.declared.instr.Instr.{Instr}
use Rattle.isa.specs.declared.programs.Programs.{Programs}
use Rattle.litmus_text.specs.declared.draft.Stage.{Stage}
use Rattle.litmus_text.specs.declared.draft.Stage.TheVariants.{Main, Recovery}
use Rattle.litmus_text.specs.declared.program_line.ProgramLine.{ProgramLine}
use Rattle.litmus_text.specs.Reading.{Draft, empty_draft, program_so_far}
use Rattle.litmus_text.specs.Relations.{Leads, Lines}
use Rattle.litmus_text.specs.SourceLines.{ProgramLines}

-- Line n of these says the instruction at a place of a program of a processor: each line before it may come, and it brings one instruction more.
pub record SaysAt (lines : List (List ℕ)) (processor : ℕ) (stage : Stage) (place n : ℕ) (said : ProgramLine) : Type 0 where
  pub before : List (List ℕ)
  pub line : List ℕ
  pub others : List (List ℕ)
  pub parts : lines ≡ before ++ line ∷ others
  pub number : n ≡ length before + 1
  pub read : Draft
  pub may_come : Lines 1 empty_draft before read
  pub of_processor : length read.processors ≡ processor
  pub in_program : read.stage ≡ stage
  pub at_place : length read.lines ≡ place
  pub says : Leads n read line (record read { lines = read.lines ++ said ∷ [] })

-- lines of these numbers say these instructions, from a place on
abbrev pub SaysEach : List (List ℕ) → ℕ → Stage → ℕ → List ℕ → List ProgramLine → Type 0
SaysEach lines processor stage place [] [] = Unit {0}
SaysEach lines processor stage place [] (said ∷ others) = ⊥
SaysEach lines processor stage place (n ∷ numbers) [] = ⊥
SaysEach lines processor stage place (n ∷ numbers) (said ∷ others) =
    SaysAt lines processor stage place n said × SaysEach lines processor stage (place + 1) numbers others

-- Lines of these numbers say the instructions of a program of a processor: those that were read when the line came that ends the program.
pub record AreLinesOf (lines : List (List ℕ)) (processor : ℕ) (stage : Stage) (numbers : List ℕ) (code : List Instr) : Type 0 where
  pub before : List (List ℕ)
  pub last : List ℕ
  pub others : List (List ℕ)
  pub parts : lines ≡ before ++ last ∷ others
  pub last_tokens : (tokens_of last ≡ codes "recover" ∷ []) ⊎ (tokens_of last ≡ codes "end" ∷ [])
  pub read : Draft
  pub may_come : Lines 1 empty_draft before read
  pub of_processor : length read.processors ≡ processor
  pub in_program : read.stage ≡ stage
  pub code_is : code ≡ program_so_far read
  pub each : SaysEach lines processor stage 0 numbers read.lines

-- those of both programs; a processor without a recovery program has no lines of one
abbrev pub AreLinesOfPrograms : List (List ℕ) → ℕ → ProgramLines → Programs → Type 0
AreLinesOfPrograms lines processor numbers programs =
    AreLinesOf lines processor Main numbers.main programs.main
    × (AreLinesOf lines processor Recovery numbers.recovery programs.recovery ⊎ ((numbers.recovery ≡ []) × (programs.recovery ≡ [])))

-- those of each processor, from a number on
abbrev pub AreLinesOfAll : List (List ℕ) → ℕ → List ProgramLines → List Programs → Type 0
AreLinesOfAll lines processor [] [] = Unit {0}
AreLinesOfAll lines processor [] (programs ∷ others) = ⊥
AreLinesOfAll lines processor (numbers ∷ more) [] = ⊥
AreLinesOfAll lines processor (numbers ∷ more) (programs ∷ others) =
    AreLinesOfPrograms lines processor numbers programs × AreLinesOfAll lines (processor + 1) more others

-- how many lines and how many instructions each program of a processor has
abbrev pub line_counts : ProgramLines → ℕ × ℕ
line_counts p = (length p.main, length p.recovery)

abbrev pub instruction_counts : Programs → ℕ × ℕ
instruction_counts p = (length p.main, length p.recovery)
