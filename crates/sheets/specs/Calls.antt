-- How a call leaves a sheet where it read a line.
use Rattle.std.specs.Prelude.{◌≡◌, ℕ, OnOk, Result, List}
use Rattle.outcomes.specs.declared.or_no_memory.OrNoMemory.{OrNoMemory}
use Rattle.outcomes.specs.declared.or_no_memory.OrNoMemory.TheVariants.{Fault, NoMemory}
use Rattle.text_tokens.specs.Cursors.{Token, unread}
use Rattle.litmus_text.specs.declared.fault.LineFault.{LineFault}
use Rattle.sheets.specs.declared.sheet.Row.{Row}
use Rattle.sheets.specs.Sheets.{Sheet, stopped}

-- line n has this fault; where memory ran out, the call does not end well
abbrev pub StopsAt : ℕ → Sheet → OrNoMemory LineFault → Sheet → Type 0
StopsAt n old (Fault kind) new = new ≡ stopped n kind old
StopsAt n old NoMemory new = ⊥

-- A call reads a row: it leaves the sheet that is stated after it, unless memory ran out.
abbrev pub ReadsRow : {E : Type 0} → (ℕ → Sheet → Token → List Token → Sheet) → Sheet → Row → Result (Unit {0}) E → Sheet → Type 0
ReadsRow stated old row result new = OnOk result (new ≡ stated row.number old row.first.now (unread row.others))

-- the same of the tokens behind the first
abbrev pub ReadsRest : {E : Type 0} → (ℕ → Sheet → List Token → Sheet) → Sheet → Row → Result (Unit {0}) E → Sheet → Type 0
ReadsRest stated old row result new = OnOk result (new ≡ stated row.number old (unread row.others))
