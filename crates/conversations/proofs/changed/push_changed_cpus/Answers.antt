use Rattle.std.proofs.Common.{arith, ◌<◌, ◌∙◌, length}
use Rattle.conversations.proofs.OneMoreChanged.{cpus_more}
use Rattle.conversations.proofs.changed.push_changed_cpus.Goals as goal

pub loop-p-preserved : goal.loop-p-preserved
loop-p-preserved c =
    let inside : c.loop-p.p < length c.args.view.now.processors = omega arith in
    cpus_more _ _ _ _ _ _ _ _ inside (c.as_bytes.ensures.value ∙ c.in_ok-had.ensures) c.in_ok-push_changed_cpu.ensures c.loop-p.invariant
