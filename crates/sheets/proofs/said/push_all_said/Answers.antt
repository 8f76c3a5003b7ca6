use Rattle.std.proofs.Common.{◌∙◌, sym}
use Rattle.sheets.proofs.RowSteps.{fault_said}
use Rattle.sheets.proofs.said.push_all_said.Goals as goal

pub returns-in-Err-Fault : goal.returns-in-Err-Fault
returns-in-Err-Fault c =
    let read = rw c.in-Err-Fault.field-0-is at c.in-Err-Fault.ensures in
    rw c.in-Err-Fault.field-0-is (sym c.loop-token.invariant ∙ fault_said _ _ _ _ _ _ _ c.in-Some.ensures.steps read)
