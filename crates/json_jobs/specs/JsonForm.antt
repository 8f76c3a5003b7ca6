-- The reports of `tally` and `hunt` as JSON.
use Rattle.thread_jobs.specs.ReportForms.{ReportForm}
use Rattle.json_jobs.specs.HuntData.{hunt_report}
use Rattle.json_jobs.specs.TallyData.{ends_report, losses_report, tally_report}

-- all of them
abbrev pub json_reports : ReportForm
json_reports = record {
  of_tally = tally_report;
  of_losses = losses_report;
  of_ends = ends_report;
  of_hunt = hunt_report;
}
