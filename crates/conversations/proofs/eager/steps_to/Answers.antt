use Rattle.std.proofs.Common.{◌-◌, ◌∙◌, arith, sym}
use Rattle.conversations.specs.Eager.{is_met}
use Rattle.conversations.proofs.EagerSteps.{all_on, none_on, one_on, one_there}
use Rattle.conversations.proofs.eager.steps_to.Goals as goal

pub returns-in-None : goal.returns-in-None
returns-in-None c =
    none_on (is_met c.args.aim) c.loop-left.steps.items _ c.loop-left.own c.loop-left.left (omega (arith, c.loop-left-test.true)) c.loop-left.invariant c.in-None.ensures

pub returns-then-is_met : goal.returns-then-is_met
returns-then-is_met c =
    rw c.in_ok-push-in-Some.ensures.items
    (one_there (is_met c.args.aim) c.loop-left.steps.items _ c.loop-left.own c.loop-left.left (c.loop-left.left - 1) c.make_first.new.machine c.in-Some.step
    (omega (arith, c.loop-left-test.true)) (sym c.is_met.ensures ∙ c.if-is_met.true) c.loop-left.invariant c.in-Some.ensures)

pub loop-left-preserved : goal.loop-left-preserved
loop-left-preserved c =
    rw c.in_ok-push-in-Some.ensures.items
    (one_on (is_met c.args.aim) c.loop-left.steps.items _ c.loop-left.own c.loop-left.left (c.loop-left.left - 1) c.make_first.new.machine c.in-Some.step
    (omega (arith, c.loop-left-test.true)) (sym c.is_met.ensures ∙ c.if-is_met.false) c.loop-left.invariant c.in-Some.ensures)

pub returns : goal.returns
returns c =
    all_on (is_met c.args.aim) c.loop-left.steps.items _ c.loop-left.own c.loop-left.left (λ more. omega (arith, c.loop-left-test.false, more)) c.loop-left.invariant
