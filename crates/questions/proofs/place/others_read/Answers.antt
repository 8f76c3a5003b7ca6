use Rattle.std.proofs.Common.{arith}
use Rattle.questions.proofs.PlaceSteps.{fault_token}
use Rattle.questions.proofs.place.others_read.Goals as goal

pub returns-in-Err-Fault-clause-value : goal.returns-in-Err-Fault-clause-value
returns-in-Err-Fault-clause-value c =
    let fault = rw c.in-Err-Fault.field-0-is at c.in-Err-Fault.ensures in
    omega (arith, c.loop-token.invariant.same, fault_token _ _ _ _ _ _ c.in-Some.ensures.steps fault)
