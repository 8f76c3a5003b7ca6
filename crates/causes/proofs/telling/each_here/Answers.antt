use Rattle.causes.specs.Enough.{IsEnoughHere}
use Rattle.causes.proofs.Leads.{one_more}
use Rattle.causes.proofs.telling.each_here.Goals as goal

pub loop-place-preserved : goal.loop-place-preserved
loop-place-preserved c =
    one_more (IsEnoughHere c.args.question.now c.args.machine.now) c.args.missing.now c.loop-place.place c.loop-place.told.items _
    (record { write = c.index-missing-place.result; enough = c.in_ok-enough.enough }) c.in_ok-push.ensures.items c.loop-place-test.true c.index-missing-place.is
    (λ is. (c.in_ok-enough.ensures.first is, c.in_ok-enough.ensures.enough is)) c.loop-place.invariant
