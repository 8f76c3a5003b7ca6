use Rattle.std.proofs.Common.{rules}
use Rattle.machine.specs.declared.step.Step.TheVariants.{Exec}
use Rattle.jobs.proofs.NamedSteps.{numbered_next}
use Rattle.jobs.proofs.next_list.push_execs.Goals as goal

pub loop-p-preserved : goal.loop-p-preserved
loop-p-preserved c =
    numbered_next Exec c.loop-p.p _ c.args.steps.now.items c.loop-p.steps.items c.push.new.self.items c.loop-p.invariant (search rules) c.in_ok-push.ensures.items
