use Rattle.std.proofs.Common.{sym, ◌∙◌}
use Rattle.questions.proofs.ItemSteps.{fault_token}
use Rattle.questions.proofs.items.Items.read_others.Goals as goal

pub returns-in-Err-Fault : goal.returns-in-Err-Fault
returns-in-Err-Fault c =
    let fault = rw c.in-Err-Fault.field-0-is at c.in-Err-Fault.ensures in
    rw c.in-Err-Fault.fault-is (sym c.loop-token.invariant ∙ fault_token _ _ _ _ _ _ c.in-Some.ensures.steps fault)
