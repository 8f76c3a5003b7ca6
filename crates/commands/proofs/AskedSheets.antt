-- A sheet that is read with its questions: its program is read.
use Rattle.std.proofs.Common.{◌≡◌, ◌∙◌, ℕ, Some, Result, Ok, Err, List, ap, refl, sym}
use Rattle.std.specs.Prelude.{IsOk}
use Rattle.outcomes.specs.Outcomes.{◌>>=◌}
use Rattle.isa.specs.Objects.{Object}
use Rattle.litmus_text.specs.declared.fault.TextFault.{TextFault}
use Rattle.litmus_text.specs.declared.text_lines.LinedObject.{LinedObject}
use Rattle.litmus_text.specs.Texts.{litmus_of}
use Rattle.questions.specs.Questions.{Questioned}
use Rattle.questions.specs.Items as said
use Rattle.questions.specs.Items.{items_in}
use Rattle.questions.specs.Reading.{questioned_of, scope_of}
use Rattle.sheets.specs.declared.reading.SheetRead.{SheetRead}
use Rattle.sheets.specs.Reading.{litmus_said, sheet_of}
use Rattle.sheets.specs.Abbreviations.{Names}
use Rattle.sheets.specs.Sheets.{Items, read_of}
use Rattle.sheets.proofs.ToldLines.{object_is_told}
use Rattle.commands.specs.Programs.{HasGoodQuestions, program_told}

abbrev asked_with : said.Items → LinedObject → Questioned
asked_with found lined = record { lined = lined; questions = found.questions; scope = Some found.scope }

-- a sheet
abbrev read_with : Result LinedObject TextFault → Names → Items → Result SheetRead TextFault
read_with read names items = read >>= λ lined. Ok (record { lined = lined; names = names; items = items })

-- what finds what the items of one say
abbrev Finds : Type 0
Finds = SheetRead → Result said.Items TextFault

-- a sheet, and then its items
abbrev both : Result LinedObject TextFault → Names → Items → Finds → Result Questioned TextFault
both read names items finds = read_with read names items >>= λ sheet. finds sheet >>= λ found. Ok (asked_with found sheet.lined)

items_read : (lined : LinedObject) (found : Result said.Items TextFault) (asked : Questioned) → (found >>= λ items. Ok (asked_with items lined)) ≡ Ok asked → lined ≡ asked.lined
items_read lined (Ok items) asked e =
    let whole : asked_with items lined ≡ asked = cc in
    ap (λ (q : Questioned). q.lined) whole
items_read lined (Err fault) asked e = absurd cc

-- the sheet is read where both are
read_both : (read : Result LinedObject TextFault) (names : Names) (items : Items) (finds : Finds) (asked : Questioned) → both read names items finds ≡ Ok asked → read ≡ Ok asked.lined
read_both (Ok lined) names items finds asked e = ap (λ (l : LinedObject). Ok l) (items_read lined (finds (record { lined = lined; names = names; items = items })) asked e)
read_both (Err fault) names items finds asked e = absurd cc

-- what finds the items of any sheet
abbrev finds_all : Finds
finds_all sheet = items_in (scope_of sheet) sheet.items.first sheet.items.rows

pub asked_is_read : (bytes : List ℕ) (asked : Questioned) → questioned_of bytes ≡ Ok asked → sheet_of bytes ≡ Ok asked.lined
asked_is_read bytes asked e = read_both (sheet_of bytes) (read_of bytes).names (read_of bytes).items finds_all asked e

-- ---- the program alone

asked_told : (read : Result Questioned TextFault) (o : Object) → program_told read ≡ Ok o → (asked : Questioned) × (read ≡ Ok asked) × (asked.lined.object ≡ o)
asked_told (Ok asked) o e = (asked, refl, cc)
asked_told (Err fault) o e = absurd cc

good : (read : Result Questioned TextFault) (asked : Questioned) → read ≡ Ok asked → IsOk read
good read asked e = rw e refl

-- of a sheet that is read, the litmus text that it says is
pub sheet_told : (bytes : List ℕ) (o : Object) → program_told (questioned_of bytes) ≡ Ok o → (litmus_of (litmus_said bytes) ≡ Ok o) × HasGoodQuestions bytes
sheet_told bytes o e =
    let asked = asked_told (questioned_of bytes) o e in
    let text : litmus_of (litmus_said bytes) ≡ Ok o = rw asked.2 at (object_is_told bytes asked.0.lined (asked_is_read bytes asked.0 asked.1)) in
    (text, good (questioned_of bytes) asked.0 asked.1)

-- and the other way round
found_good : (read : Result Questioned TextFault) → IsOk read → (asked : Questioned) × (read ≡ Ok asked)
found_good (Ok asked) is = (asked, refl)
found_good (Err fault) is = absurd cc

pub sheet_tells : (bytes : List ℕ) (o : Object) → litmus_of (litmus_said bytes) ≡ Ok o → HasGoodQuestions bytes → program_told (questioned_of bytes) ≡ Ok o
sheet_tells bytes o read is =
    let found = found_good (questioned_of bytes) is in
    let text = object_is_told bytes found.0.lined (asked_is_read bytes found.0 found.1) in
    rw found.1 (sym text ∙ read)
