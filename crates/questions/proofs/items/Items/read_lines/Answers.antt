use Rattle.std.proofs.Common.{sym, ◌∙◌}
use Rattle.questions.proofs.ItemSteps.{fault_line}
use Rattle.questions.proofs.items.Items.read_lines.Goals as goal

pub returns-in-Err-Fault : goal.returns-in-Err-Fault
returns-in-Err-Fault c =
    let fault = rw c.in-Err-Fault.field-0-is at c.in-Err-Fault.ensures in
    rw c.in-Err-Fault.fault-is (sym c.loop-line.invariant.same ∙ fault_line _ _ _ _ _ _ c.in-Some.ensures.steps fault)
