use Rattle.std.proofs.Common.{rules}
use Rattle.machine.specs.declared.step.Step.TheVariants.{Persist}
use Rattle.jobs.proofs.NamedSteps.{numbered_next}
use Rattle.jobs.proofs.next_list.push_persists.Goals as goal

pub loop-line-preserved : goal.loop-line-preserved
loop-line-preserved c =
    numbered_next Persist c.loop-line.line _ c.args.steps.now.items c.loop-line.steps.items c.push.new.self.items c.loop-line.invariant (search rules) c.in_ok-push.ensures.items
