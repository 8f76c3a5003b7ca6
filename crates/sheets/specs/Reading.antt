-- What a sheet says: the value of the litmus text that it says, with the lines of the sheet.
use Rattle.std.specs.Prelude.{ℕ, Bool, false, nat_lt, if◌then◌else◌, Option, Some, None, Result, Ok, Err, List, [], ◌∷◌, ◌++◌, length, unwrap_or, bytes_eq, codes}
use Rattle.std.specs.Option.{option_map_or}
use Rattle.text_tokens.specs.Cursors.{Token}
use Rattle.text_tokens.specs.Text.{lines_of, tokens_of}
use Rattle.litmus_text.specs.declared.fault.TextFault.{TextFault}
use Rattle.litmus_text.specs.declared.fault.TextFault.TheVariants.{At}
use Rattle.litmus_text.specs.declared.text_lines.LinedObject.{LinedObject}
use Rattle.litmus_text.specs.LinedObjects.{lined_of}
use Rattle.litmus_text.specs.SourceLines.{lines_found}
use Rattle.litmus_text.specs.TextLines.{TextLines, line_numbered, renumbered}
use Rattle.isa.specs.Objects.{Object}
use Rattle.outcomes.specs.Outcomes.{◌>>=◌}
use Rattle.sheets.specs.declared.reading.SheetRead.{SheetRead}
use Rattle.sheets.specs.Sheets.{Sheet, read_of}

-- ---- which texts are sheets

-- whether tokens begin with `sheet`; None where there are no tokens
abbrev pub begins_sheet : List Token → Option Bool
begins_sheet [] = None
begins_sheet (first ∷ tokens) = Some (bytes_eq first (codes "sheet"))

-- whether the first line with tokens begins with `sheet`
unfoldable pub are_of_sheet : List (List ℕ) → Bool
are_of_sheet [] = false
are_of_sheet (line ∷ lines) = unwrap_or (begins_sheet (tokens_of line)) (are_of_sheet lines)

abbrev pub is_sheet : List ℕ → Bool
is_sheet text = are_of_sheet (lines_of text)

-- ---- what a sheet says

-- The litmus text that is read: where the sheet has a fault of its own, a line that litmus texts refuse is behind what it says before,
-- so that a fault of an earlier line comes first.
abbrev pub text_said : Sheet → List ℕ
text_said s = s.said.text ++ option_map_or (λ fault. codes "?\n") s.fault []

-- the fault of the sheet, by that of its litmus text: on the line behind all that it says it is its own
abbrev pub fault_told : Sheet → TextFault → TextFault
fault_told s (At kind n) =
    if nat_lt (length s.said.lines) n then unwrap_or s.fault (At kind n)
    else At kind (line_numbered s.said.lines n)

abbrev pub object_told : Sheet → LinedObject → LinedObject
object_told s lined = record lined { lines = renumbered s.said.lines lined.lines }

-- what its litmus text says, told of the lines of the sheet
abbrev pub told_of : Sheet → Result LinedObject TextFault → Result LinedObject TextFault
told_of s (Ok lined) = Ok (object_told s lined)
told_of s (Err fault) = Err (fault_told s fault)

-- the litmus text of a sheet
abbrev pub litmus_said : List ℕ → List ℕ
litmus_said text = text_said (read_of text)

-- the object that a sheet says and the lines of its instructions, or its fault
abbrev pub sheet_of : List ℕ → Result LinedObject TextFault
sheet_of text = told_of (read_of text) (lined_of (litmus_said text))

-- the object alone, and the lines alone
abbrev pub object_of_sheet : List ℕ → Result Object TextFault
object_of_sheet text = do
  lined ← sheet_of text
  Ok lined.object

abbrev pub lines_of_sheet : List ℕ → TextLines
lines_of_sheet text = renumbered (read_of text).said.lines (Some (lines_found (litmus_said text)))

-- the same with what its names are, and its questions as they stand
abbrev pub sheet_read_of : List ℕ → Result SheetRead TextFault
sheet_read_of text = do
  lined ← sheet_of text
  Ok (record { lined = lined; names = (read_of text).names; items = (read_of text).items })
