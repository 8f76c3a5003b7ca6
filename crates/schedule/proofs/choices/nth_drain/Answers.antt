use Rattle.std.proofs.Common.{get_or, refl, sym, ◌∙◌}
use Rattle.schedule.proofs.MaskedSteps.{drain_found, drain_passed}
use Rattle.schedule.proofs.choices.nth_drain.Goals as goal

pub returns-in-Ok : goal.returns-in-Ok
returns-in-Ok c =
    let p = c.loop-p.p in
    let at = drain_found c.args.masks.now p (get_or c.args.masks.now p 0) c.loop-p.rest c.loop-p-test.true refl c.in-Ok.i (sym c.nth_in.ensures ∙ c.in-Ok.is) in
    sym (c.loop-p.invariant ∙ at)

pub loop-p-preserved : goal.loop-p-preserved
loop-p-preserved c =
    let p = c.loop-p.p in
    c.loop-p.invariant ∙ drain_passed c.args.masks.now p (get_or c.args.masks.now p 0) c.loop-p.rest c.loop-p-test.true refl c.in-Err.passed (sym c.nth_in.ensures ∙ c.in-Err.is)
