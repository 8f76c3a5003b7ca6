use Rattle.machine.specs.declared.step.Step.TheVariants.{Settle}
use Rattle.thread_jobs.proofs.WorkerReceipts.{worked-elsewhere, worked-here}
use Rattle.thread_jobs.proofs.worker.make_own.Goals as goal

pub loop-i-preserved-then-i-threads : goal.loop-i-preserved-then-i-threads
loop-i-preserved-then-i-threads g c =
    worked-elsewhere c.loop-i.seat c.loop-i.receipts.items c.args.number c.args.dealing.threads c.loop-i.i c.args.dealing.steps.now Settle c.loop-i-test.true c.if-i-threads.true c.loop-i.invariant

pub loop-i-preserved : goal.loop-i-preserved
loop-i-preserved g c =
    worked-here _ _ c.args.number c.args.dealing.threads c.loop-i.i c.args.dealing.steps.now _ c.loop-i-test.true c.if-i-threads.false
    (c.in_ok-make_one.ensures c.args.number _ c.loop-i.invariant)
