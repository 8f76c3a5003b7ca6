use Rattle.explore.proofs.SetsAreWritten.{lists_next}
use Rattle.explore.proofs.sets_key.push_lists.Goals as goal

pub loop-list-preserved : goal.loop-list-preserved
loop-list-preserved c =
    lists_next c.args.lists.now c.loop-list.list-index c.list-item.result c.loop-list.bytes.items c.push_list.new.bytes.items _ c.loop-list-test.true c.list-item.is c.in_ok-push_list.ensures c.loop-list.invariant
