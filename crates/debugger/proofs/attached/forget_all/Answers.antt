use Rattle.std.proofs.Common.{arith}
use Rattle.debugger.proofs.ListsWithFrontMapped.{part-set, part-done}
use Rattle.debugger.proofs.attached.forget_all.Goals as goal

pub loop-w-preserved : goal.loop-w-preserved
loop-w-preserved g c =
    part-set _ _ c.loop-w.watchers c.args.watchers.now c.loop-w.w-index c.forget.new.self c.w-item.result c.loop-w.invariant c.loop-w.auto.watchers c.loop-w-test.true c.forget.ensures

pub returns : goal.returns
returns g c = part-done _ _ c.loop-w.watchers c.args.watchers.now c.loop-w.w-index c.loop-w.invariant (omega arith) (omega arith)
