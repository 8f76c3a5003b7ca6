use Rattle.json_scripts.specs.DebugData.{replies_data}
use Rattle.json_scripts.proofs.debug_report.replies_report.Goals as goal

pub value_report-requires : goal.value_report-requires
value_report-requires c = (replies_data c.requires.0, c.in_ok-value.ensures c.requires.0 c.requires.1)
