use Rattle.std.proofs.Common.{Option, IfSome, subst}
use Rattle.machine.specs.State.{State}
use Rattle.causes.specs.Enough.{HasLeft}
use Rattle.causes.proofs.Leads.{told_further_if}
use Rattle.causes.proofs.telling.each_from_image.Goals as goal

pub returns-in-Some : goal.returns-in-Some
returns-in-Some c =
    let left = subst (λ (found : Option State). IfSome found (HasLeft c.args.machine.now c.args.image.now)) c.in-Some.is c.in_ok-there.ensures in
    told_further_if c.args.question.now c.args.machine.now c.in-Some.there c.args.image.now c.args.missing.now c.each_here.result left c.each_here.ensures
