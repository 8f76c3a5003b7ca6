use Rattle.std.proofs.Common.{length, ap, arith}
use Rattle.schedule.specs.Schedules.{Schedule}
use Rattle.schedule.proofs.OneTurn.{one_listed, all_listed}
use Rattle.schedule.proofs.plan.plan_steps.Goals as goal

pub loop-step-smaller : goal.loop-step-smaller
loop-step-smaller c = omega (arith, ap (λ (x : Schedule). length x.steps) c.in-Some.ensures.step)

pub loop-step-preserved : goal.loop-step-preserved
loop-step-preserved c = one_listed _ _ _ c.in-Some.step _ _ c.loop-step.invariant c.in_ok-push.ensures.items c.in-Some.ensures.step

pub returns : goal.returns
returns c = record { steps = all_listed c.loop-step.steps.items _ _ _ c.loop-step.invariant c.in_default-next.ensures.end }
