use Rattle.std.proofs.Common.{rules}
use Rattle.machine.specs.declared.step.Step.TheVariants.{Drain}
use Rattle.jobs.proofs.NamedSteps.{numbered_next}
use Rattle.jobs.proofs.next_list.push_places.Goals as goal

pub loop-i-preserved : goal.loop-i-preserved
loop-i-preserved c =
    numbered_next (Drain c.args.p) c.loop-i.i _ c.args.steps.now.items c.loop-i.steps.items c.push.new.self.items c.loop-i.invariant (search rules) c.in_ok-push.ensures.items
