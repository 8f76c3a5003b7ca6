use Rattle.std.proofs.Common.{◌∙◌, sym}
use Rattle.sheets.proofs.RowSteps.{opening}
use Rattle.sheets.proofs.reading.is_sheet.Goals as goal

pub returns-in-Some-begins_sheet : goal.returns-in-Some-begins_sheet
returns-in-Some-begins_sheet c = sym (opening _ _ _ c.in-Some-begins_sheet.begins c.in-Some.ensures.steps (sym c.in-Some-begins_sheet.ensures)) ∙ c.loop-line.invariant
