use Rattle.std.proofs.Common.{true, refl}
use Rattle.std.proofs.lemmas.Result.{err_from_is_err_and}
use Rattle.commands.proofs.ServedCommands.{serves_made, serves_unmade, serves_unread}
use Rattle.thread_jobs.specs.ThreadReports.{live_command}
use Rattle.thread_jobs.proofs.ThreadCommands.{live_reads}
use Rattle.thread_jobs.proofs.command.share.Goals as goal

pub returns-in_err-sources : goal.returns-in_err-sources
returns-in_err-sources g c =
    let e = err_from_is_err_and c.from_residual.result c.from_residual.ensures.1 in
    rw (e.1, e.2) (serves_unread (live_command g.F.ReportsJournals.journals c.args.threads) _ _ _ true (live_reads g.F.ReportsJournals.journals c.args.threads) _ c.in_err-sources.ensures refl)

pub returns-in_err-report : goal.returns-in_err-report
returns-in_err-report g c =
    let e = err_from_is_err_and c.from_residual-in_err-report.result c.from_residual-in_err-report.ensures.1 in
    rw (e.1, e.2) (serves_unmade (live_command g.F.ReportsJournals.journals c.args.threads) _ _ _ true (live_reads g.F.ReportsJournals.journals c.args.threads) _ _ c.in_ok-sources.ensures c.in_err-report.ensures refl)

pub returns : goal.returns
returns g c =
    serves_made (live_command g.F.ReportsJournals.journals c.args.threads) _ _ _ true (live_reads g.F.ReportsJournals.journals c.args.threads) _ _ _ c.in_ok-sources.ensures c.in_ok-report.ensures c.write_report.ensures
