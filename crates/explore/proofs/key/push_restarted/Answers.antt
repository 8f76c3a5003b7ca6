use Rattle.std.proofs.Common.{rules, ◌<◌, length}
use Rattle.explore.proofs.KeysAreWritten.{restarted_next}
use Rattle.explore.proofs.key.push_restarted.Goals as goal

pub loop-p-preserved : goal.loop-p-preserved
loop-p-preserved c =
    let within : c.loop-p._p < length c.args.view.now.processors = search rules in
    restarted_next c.args.view.now.processors c.loop-p._p c.loop-p.bytes.items c.extend_from_slice.new.self.items _ within c.in_ok-extend_from_slice.ensures.items c.loop-p.invariant
