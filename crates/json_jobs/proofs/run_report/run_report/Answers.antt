use Rattle.json_texts.specs.StateData.{run_data}
use Rattle.json_jobs.proofs.run_report.run_report.Goals as goal

pub value_report-requires : goal.value_report-requires
value_report-requires c = (run_data c.args.source.now c.in_ok-origins.origins (record { accepted = c.ran.inside.accepted; refusal = c.ran.inside.refusal; state = c.view-view.result }), c.in_ok-value.ensures)
