use Rattle.std.proofs.Common.{rules, ◌<◌, length}
use Rattle.conditions.proofs.TakenApart.{crossed_step}
use Rattle.conditions.proofs.conjuncts.crossed.Goals as goal

pub loop-one-preserved : goal.loop-one-preserved
loop-one-preserved c =
    let less : c.loop-one.one-index < length c.args.ones.now = search rules in
    crossed_step c.args.ones.now c.args.others.now c.loop-one.parts.items c.push_each.new.parts.items c.one-item.result c.loop-one.one-index less c.one-item.is c.in_ok-push_each.ensures c.loop-one.invariant
