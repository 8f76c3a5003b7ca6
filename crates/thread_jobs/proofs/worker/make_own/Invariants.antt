use Rattle.std.proofs.Common.{take}
use Rattle.thread_jobs.specs.Dealings.{dealt}
use Rattle.thread_jobs.specs.Brought.{HasWorked}
use Rattle.thread_jobs.proofs.worker.make_own.Given as goal

abbrev pub invariant-loop-i : goal.invariant-loop-i
invariant-loop-i g l = HasWorked l.seat l.receipts.items l.number (dealt l.number l.threads (take l.i l.steps))
