-- The lines of a litmus text on which its instructions stand, found line by line.
use Rattle.std.specs.Prelude.{ℕ, ◌+◌, ◌&&◌, not, List, [], ◌∷◌, ◌++◌, if◌then◌else◌, bytes_eq, codes}
use Rattle.std.specs.List.{flat_map}
use Rattle.text_tokens.specs.Text.{lines_of, tokens_of}
use Rattle.text_tokens.specs.Cursors.{Token}
use Rattle.litmus_text.specs.Reading.{is_label_line}
use Rattle.litmus_text.specs.declared.found.Part.{Part}
use Rattle.litmus_text.specs.declared.found.Part.TheVariants as parts

-- the lines of the instructions of a processor's two programs
pub record ProgramLines : Type 0 where
  pub main : List ℕ
  pub recovery : List ℕ

-- what was found so far
pub record Found : Type 0 where
  -- where the next line is
  pub part : Part
  -- the lines of the processors that have ended
  pub processors : List ProgramLines
  -- those of the main program of the processor that goes on, once its recovery program has begun
  pub main : List ℕ
  -- those of the program that goes on
  pub lines : List ℕ

-- before the first line
abbrev pub nothing_found : Found
nothing_found = record { part = parts.Outside; processors = []; main = []; lines = [] }

-- the lines of the processor that goes on, if it ended here
abbrev pub programs_found : Part → Found → ProgramLines
programs_found parts.Recovery f = record { main = f.main; recovery = f.lines }
programs_found _ f = record { main = f.lines; recovery = [] }

-- cpu
abbrev pub begun : Found → Found
begun f = record f { part = parts.Main }

-- recover
abbrev pub recovery_begun : Found → Found
recovery_begun f = record f { part = parts.Recovery; main = f.lines; lines = [] }

-- end
abbrev pub ended : Found → Found
ended f = record { part = parts.Outside; processors = f.processors ++ programs_found f.part f ∷ []; main = []; lines = [] }

-- line n of a program: a label, its last line, or an instruction
unfoldable pub program_row_found : ℕ → Found → Token → List Token → Found
program_row_found n f first tokens =
    if is_label_line tokens then f
    else if bytes_eq first (codes "end") then ended f
    else record f { lines = f.lines ++ n ∷ [] }

-- the tokens of line n, of which `first` is the first
unfoldable pub row_found : Part → ℕ → Found → Token → List Token → Found
row_found parts.Outside n f first tokens = if bytes_eq first (codes "cpu") then begun f else f
row_found parts.Main n f first tokens =
    if not (is_label_line tokens) && bytes_eq first (codes "recover") then recovery_begun f
    else program_row_found n f first tokens
row_found parts.Recovery n f first tokens = program_row_found n f first tokens

-- a line without tokens says nothing
abbrev pub tokens_found : ℕ → Found → List Token → Found
tokens_found n f [] = f
tokens_found n f (first ∷ tokens) = row_found f.part n f first tokens

-- line n
abbrev pub found_after : ℕ → Found → List ℕ → Found
found_after n f line = tokens_found n f (tokens_of line)

-- lines of which the first has the number n
unfoldable pub found_from : ℕ → Found → List (List ℕ) → Found
found_from n f [] = f
found_from n f (line ∷ lines) = found_from (n + 1) (found_after n f line) lines

-- the lines of the instructions of all processors, in order; lines are counted from 1
abbrev pub lines_found : List ℕ → List ProgramLines
lines_found text = (found_from 1 nothing_found (lines_of text)).processors

-- all these lines, in the order of processors, programs and instructions
abbrev pub all_lines : List ProgramLines → List ℕ
all_lines processors = flat_map (λ p. p.main ++ p.recovery) processors
