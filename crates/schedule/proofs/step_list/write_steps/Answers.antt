use Rattle.std.proofs.Common.{arith}
use Rattle.schedule.proofs.WrittenSteps.{written_again}
use Rattle.schedule.proofs.step_list.write_steps.Goals as goal

pub returns-clause-again : goal.returns-clause-again
returns-clause-again c =
    written_again c.args.steps.now c.loop-step.step-index _ (omega (arith, c.loop-step-test.false)) c.loop-step.invariant.writable c.loop-step.invariant.text
