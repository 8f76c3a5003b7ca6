use Rattle.std.proofs.Common.{rules, ◌<◌, length}
use Rattle.explore.proofs.RunsGathered.{outcome_next}
use Rattle.explore.proofs.ends.push_processors.Goals as goal

pub loop-p-preserved : goal.loop-p-preserved
loop-p-preserved c =
    let within : c.loop-p.p < length c.args.view.now.processors = search rules in
    outcome_next c.args.view.now.processors c.loop-p.p c.loop-p.values.items c.push_processor.new.values.items _ within c.in_ok-push_processor.ensures c.loop-p.invariant
