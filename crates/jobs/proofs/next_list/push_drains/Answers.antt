use Rattle.std.proofs.Common.{rules, ◌<◌, length}
use Rattle.jobs.proofs.NamedSteps.{drains_next}
use Rattle.jobs.proofs.next_list.push_drains.Goals as goal

pub loop-p-preserved : goal.loop-p-preserved
loop-p-preserved c =
    let within : c.loop-p.p < length c.args.view.now.processors = search rules in
    drains_next c.args.view.now.processors c.loop-p.p c.loop-p.steps.items c.push_drains_of.new.steps.items _ within c.in_ok-push_drains_of.ensures c.loop-p.invariant
