use Rattle.std.proofs.Common.{arith, ◌<◌, length}
use Rattle.commands.proofs.OneMoreItemOfState.{cpus_more}
use Rattle.commands.proofs.state_text.push_cpus.Goals as goal

pub loop-p-preserved : goal.loop-p-preserved
loop-p-preserved c =
    let inside : c.loop-p.p < length c.args.view.now.processors = omega arith in
    cpus_more _ _ _ _ _ _ inside c.in_ok-push_cpu.ensures c.loop-p.invariant
