use Rattle.std.proofs.Common.{sym, ◌∙◌, ap, Ok}
use Rattle.std.proofs.lemmas.Bool.{eq-eqb}
use Rattle.questions.proofs.PlaceSteps.{another, fault_line, this_line}
use Rattle.questions.proofs.place.read_among.Goals as goal

pub returns-then-at-number : goal.returns-then-at-number
returns-then-at-number c =
    sym c.loop-line.invariant.same
    ∙ this_line _ _ _ _ _ _ c.in-Some.ensures.steps (eq-eqb _ _ c.if-at-number.true)
    ∙ ap Ok (sym c.in_ok-tokens_read.ensures)

pub returns-in-Err-Fault : goal.returns-in-Err-Fault
returns-in-Err-Fault c =
    let fault = rw c.in-Err-Fault.field-0-is at c.in-Err-Fault.ensures in
    rw c.in-Err-Fault.fault-is (sym c.loop-line.invariant.same ∙ fault_line _ _ _ _ _ _ _ c.in-Some.ensures.steps (another _ _ c.if-at-number.false) fault)
