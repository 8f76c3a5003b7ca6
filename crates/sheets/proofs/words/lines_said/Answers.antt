use Rattle.std.proofs.Common.{rules, ◌∙◌, ◌<◌, sym}
use Rattle.sheets.specs.Abbreviations.{copies}
use Rattle.sheets.proofs.Ranges.{next_number}
use Rattle.sheets.proofs.RowSteps.{fault_line}
use Rattle.sheets.proofs.words.lines_said.Goals as goal

pub returns-in-Err-Fault : goal.returns-in-Err-Fault
returns-in-Err-Fault c =
    let below : c.loop-number.number < copies c.args.count = search rules in
    let read = rw (c.in-Err-Fault.field-0-is, c.numbered_copy.ensures) at c.in-Err-Fault.ensures in
    rw c.in-Err-Fault.field-0-is (sym c.loop-number.invariant ∙ fault_line _ _ _ _ _ _ _ _ (next_number _ _ below) read)
