use Rattle.thread_jobs.proofs.WorkerReceipts.{worked-next}
use Rattle.thread_jobs.proofs.worker.make_one.Goals as goal

pub returns : goal.returns
returns g c = λ number xs worked.
    let e = c.in-Ok.ensures in
    worked-next _ _ _ c.reserve.new.self.items c.push_reserved.new.self.items number xs c.in-Ok.receipt _ c.push_reserved.ensures.items c.reserve.ensures.items worked e.seat e.names.0 e.names.1 e.later
