-- What is told of the lines of a sheet is what its litmus text says, by the lines of the sheet.
use Rattle.std.proofs.Common.{◌≡◌, ℕ, Some, Result, Ok, Err, List, ap, refl, sym}
use Rattle.outcomes.specs.Outcomes.{◌>>=◌}
use Rattle.isa.specs.Objects.{Object}
use Rattle.litmus_text.specs.declared.fault.TextFault.{TextFault}
use Rattle.litmus_text.specs.declared.text_lines.LinedObject.{LinedObject}
use Rattle.litmus_text.specs.SourceLines.{lines_found}
use Rattle.litmus_text.specs.TextLines.{TextLines, renumbered}
use Rattle.litmus_text.specs.Texts.{litmus_of}
use Rattle.sheets.specs.Sheets.{Sheet, read_of}
use Rattle.sheets.specs.Reading.{lines_of_sheet, litmus_said, object_of_sheet, object_told, sheet_of, told_of}

-- an object with these lines, told of a sheet
abbrev lined_with : TextLines → Object → LinedObject
lined_with lines object = record { object = object; lines = lines }

abbrev told_with : Sheet → TextLines → Result Object TextFault → Result LinedObject TextFault
told_with s lines said = told_of s (said >>= λ object. Ok (lined_with lines object))

told_lines : (s : Sheet) (lines : TextLines) (said : Result Object TextFault) (lined : LinedObject) → told_with s lines said ≡ Ok lined → lined.lines ≡ renumbered s.said.lines lines
told_lines s lines (Ok object) lined e =
    let whole : object_told s (lined_with lines object) ≡ lined = cc in
    sym (ap (λ (l : LinedObject). l.lines) whole)
told_lines s lines (Err fault) lined e = absurd cc

told_object : (s : Sheet) (lines : TextLines) (said : Result Object TextFault) (lined : LinedObject) → told_with s lines said ≡ Ok lined → said ≡ Ok lined.object
told_object s lines (Ok object) lined e =
    let whole : object_told s (lined_with lines object) ≡ lined = cc in
    let same : object ≡ lined.object = ap (λ (l : LinedObject). l.object) whole in
    rw same refl
told_object s lines (Err fault) lined e = absurd cc

-- the lines of a sheet that is read
pub lines_are_said : (text : List ℕ) (lined : LinedObject) → sheet_of text ≡ Ok lined → lined.lines ≡ lines_of_sheet text
lines_are_said text lined e = told_lines (read_of text) (Some (lines_found (litmus_said text))) (litmus_of (litmus_said text)) lined e

-- its object is that of its litmus text
pub object_is_told : (text : List ℕ) (lined : LinedObject) → sheet_of text ≡ Ok lined → litmus_of (litmus_said text) ≡ Ok lined.object
object_is_told text lined e = told_object (read_of text) (Some (lines_found (litmus_said text))) (litmus_of (litmus_said text)) lined e

object_alone : (s : Sheet) (lines : TextLines) (said : Result Object TextFault) (o : Object) → (told_with s lines said >>= λ lined. Ok lined.object) ≡ Ok o → said ≡ Ok o
object_alone s lines (Ok object) o e = cc
object_alone s lines (Err fault) o e = absurd cc

pub object_is_said : (text : List ℕ) (o : Object) → object_of_sheet text ≡ Ok o → litmus_of (litmus_said text) ≡ Ok o
object_is_said text o e = object_alone (read_of text) (Some (lines_found (litmus_said text))) (litmus_of (litmus_said text)) o e
