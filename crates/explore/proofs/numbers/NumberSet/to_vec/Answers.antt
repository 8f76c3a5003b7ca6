use Rattle.std.proofs.Common.{rules, ◌<◌, length}
use Rattle.explore.proofs.ListsGoOn.{lists_next}
use Rattle.explore.proofs.numbers.NumberSet.to_vec.Goals as goal

pub loop-i-preserved : goal.loop-i-preserved
loop-i-preserved c =
    let within : c.loop-i.i < length c.args.self.now = search rules in
    lists_next c.args.self.now c.loop-i.i c.loop-i.lists.items c.push_at.new.lists.items within c.in_ok-push_at.ensures c.loop-i.invariant
