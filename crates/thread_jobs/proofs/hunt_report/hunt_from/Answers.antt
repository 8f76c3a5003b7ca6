use Rattle.thread_jobs.specs.ThreadReports.{hunt_from}
use Rattle.thread_jobs.proofs.ThreadCommands.{hunt_lacks}
use Rattle.thread_jobs.proofs.hunt_report.hunt_from.Goals as goal

pub returns-in-Err : goal.returns-in-Err
returns-in-Err g c = rw c.hunt_fault.ensures (hunt_lacks (hunt_from g.F.ReportsSchedules.reports c.args.options.now c.args.start.now) c.in-Err.fault)
