use Rattle.std.proofs.Common.{arith, ◌<◌, length}
use Rattle.json_texts.proofs.StateParts.{cpus_more}
use Rattle.json_texts.proofs.cpus.cpus_value.Goals as goal

pub loop-p-preserved : goal.loop-p-preserved
loop-p-preserved c =
    let inside : c.loop-p.p < length c.args.view.now.processors = omega arith in
    cpus_more _ c.args.origins.now _ _ _ _ _ _ inside c.in_ok-push.ensures.ok c.in_ok-cpu_value.ensures c.loop-p.invariant
