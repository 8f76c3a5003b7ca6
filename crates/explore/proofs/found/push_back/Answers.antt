use Rattle.explore.proofs.LinksGoOn.{back_begins, back_ends, back_next}
use Rattle.std.proofs.Common.{rules, ◌<◌, length}
use Rattle.explore.proofs.found.push_back.Goals as goal

pub loop-i-init : goal.loop-i-init
loop-i-init c = back_begins c.args.steps.now c.args.back.now.items

pub loop-i-preserved : goal.loop-i-preserved
loop-i-preserved c =
    let within : c.loop-i.i < length c.args.steps.now = search rules in
    back_next c.args.steps.now c.loop-i.back.items c.push.new.self.items _ c.loop-i.i _ within c.in_ok-push.ensures.items c.loop-i.invariant

pub returns : goal.returns
returns c = back_ends c.args.steps.now c.loop-i.back.items _ c.loop-i.i c.loop-i-test.false c.loop-i.invariant
