use Rattle.std.proofs.Common.{length}
use Rattle.json_jobs.specs.NextReports.{all_next_data}
use Rattle.json_jobs.proofs.next_report.next_report.Goals as goal

pub value_report-requires : goal.value_report-requires
value_report-requires c = (all_next_data c.args.source.now c.args.options.now (length c.args.given.now) c.in_ok-origins.origins c.args.machine.now, c.in_ok-value.ensures)
