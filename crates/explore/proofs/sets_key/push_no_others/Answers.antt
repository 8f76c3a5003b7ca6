use Rattle.std.proofs.Common.{rules, ◌<◌, length}
use Rattle.explore.proofs.SetsAreWritten.{none_next}
use Rattle.explore.proofs.sets_key.push_no_others.Goals as goal

pub loop-line-preserved : goal.loop-line-preserved
loop-line-preserved c =
    let within : c.loop-line._line < length c.args.shape.now = search rules in
    none_next c.args.shape.now c.loop-line.bytes.items c.push.new.self.items _ c.loop-line._line within c.in_ok-push.ensures.items c.loop-line.invariant
