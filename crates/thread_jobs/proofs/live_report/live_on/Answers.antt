use Rattle.thread_jobs.specs.ThreadReports.{IsLiveAnswer}
use Rattle.thread_jobs.proofs.ThreadCommands.{live_lacks}
use Rattle.thread_jobs.proofs.live_report.live_on.Goals as goal

pub returns-in-Err : goal.returns-in-Err
returns-in-Err g c = rw c.live_fault.ensures (live_lacks (IsLiveAnswer g.F.ReportsJournals.journals c.args.threads (c.args.lined.now, c.args.steps.now)) c.in-Err.end)
