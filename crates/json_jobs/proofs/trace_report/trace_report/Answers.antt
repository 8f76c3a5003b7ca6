use Rattle.json_jobs.specs.StepReports.{trace_data}
use Rattle.json_jobs.proofs.trace_report.trace_report.Goals as goal

pub value_report-requires : goal.value_report-requires
value_report-requires c = (trace_data c.args.source.now c.args.options.now c.args.steps.now c.in_ok-origins.origins c.args.machine.now, c.in_ok-value.ensures.value)
