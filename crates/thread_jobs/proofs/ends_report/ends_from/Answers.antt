use Rattle.std.proofs.Common.{Ok, sym, ap, ◌∙◌}
use Rattle.commands.specs.Serving.{Report}
use Rattle.commands.specs.Works.{Makes}
use Rattle.thread_jobs.proofs.ends_report.ends_from.Goals as goal

pub returns-in-Ok-ends_report : goal.returns-in-Ok-ends_report
unfolding Makes
returns-in-Ok-ends_report g c =
    rw (← c.start.view_is)
    (ap (λ (report : Report). Ok report) (sym (c.in-Ok-ends_report.ensures ∙ ap (g.F.ReportsSchedules.reports.of_ends c.start.inside.search.range.n) c.in-Ok.ensures)))
