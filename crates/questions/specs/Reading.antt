-- What a sheet says, with its questions.
use Rattle.std.specs.Prelude.{ℕ, Some, Result, Ok, List, [], length}
use Rattle.outcomes.specs.Outcomes.{◌>>=◌}
use Rattle.litmus_text.specs.declared.fault.TextFault.{TextFault}
use Rattle.sheets.specs.declared.reading.SheetRead.{SheetRead}
use Rattle.sheets.specs.Reading.{sheet_read_of}
use Rattle.questions.specs.Questions.{Questioned}
use Rattle.questions.specs.Scopes.{Scope}
use Rattle.questions.specs.Items.{items_in}

-- what the first item may name
abbrev pub scope_of : SheetRead → Scope
scope_of sheet = record { names = sheet.names; processors = length sheet.lined.object.processors; entries = [] }

-- what a sheet says with its questions, or its fault: the program's comes first
abbrev pub questioned_of : List ℕ → Result Questioned TextFault
questioned_of text = do
  sheet ← sheet_read_of text
  items ← items_in (scope_of sheet) sheet.items.first sheet.items.rows
  Ok (record { lined = sheet.lined; questions = items.questions; scope = Some items.scope })
