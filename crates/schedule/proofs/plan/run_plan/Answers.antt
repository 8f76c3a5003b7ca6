use Rattle.std.proofs.Common.{sym, ◌∙◌, arith}
use Rattle.schedule.proofs.OneTurn.{one_made, none_made}
use Rattle.schedule.proofs.SchedulesEnd.{siblings_after}
use Rattle.schedule.proofs.plan.run_plan.Goals as goal

pub loop-count-smaller : goal.loop-count-smaller
loop-count-smaller c =
    let made = one_made c.next.result _ _ (sym c.is_some.ensures ∙ c.loop-count-test.true) c.next.ensures.step in
    omega (arith, made.0)

pub loop-count-preserved : goal.loop-count-preserved
loop-count-preserved c =
    let made = one_made c.next.result _ _ (sym c.is_some.ensures ∙ c.loop-count-test.true) c.next.ensures.step in
    record {
      turns = omega (arith, c.loop-count.invariant.turns, made.0);
      state = c.loop-count.invariant.state ∙ made.1;
    }

pub returns-clause-turns : goal.returns-clause-turns
returns-clause-turns c =
    let none = none_made c.next.result _ _ (sym c.is_some.ensures ∙ c.loop-count-test.false) c.next.ensures.end in
    omega (arith, c.loop-count.invariant.turns, none.0)

pub returns-clause-state : goal.returns-clause-state
returns-clause-state c =
    let none = none_made c.next.result _ _ (sym c.is_some.ensures ∙ c.loop-count-test.false) c.next.ensures.end in
    sym (c.loop-count.invariant.state ∙ none.1)

pub returns-clause-programs : goal.returns-clause-programs
returns-clause-programs c = siblings_after c.args.plan.now c.args.number c.args.machine.now _ (returns-clause-state c)
