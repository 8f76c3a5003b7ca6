use Rattle.std.specs.List.{flat_map}
use Rattle.json_scripts.specs.DebugData.{told_items}
use Rattle.json_scripts.proofs.RepliesAsValues.{report_fault, report_lacks, report_made}
use Rattle.json_scripts.proofs.debug_report.report_on.Goals as goal

pub replies_report-requires : goal.replies_report-requires
replies_report-requires c = (flat_map (told_items c.args.lined.now) c.in-Ok.ensures.0, c.in-Ok.ensures.2)

pub returns-in-Ok-replies_report : goal.returns-in-Ok-replies_report
returns-in-Ok-replies_report c =
    report_made c.args.lined.now c.args.script.now c.in-Ok.ensures.0 _ c.in-Ok.ensures.1
    (c.in-Ok-replies_report.ensures (flat_map (told_items c.args.lined.now) c.in-Ok.ensures.0) c.in-Ok.ensures.2)

pub returns-in-Err-replies_report : goal.returns-in-Err-replies_report
returns-in-Err-replies_report c = rw c.missing.ensures (report_lacks c.args.lined.now c.args.script.now c.in-Ok.ensures.0 c.in-Ok.ensures.1)

pub returns-in-Err : goal.returns-in-Err
returns-in-Err c = report_fault c.args.lined.now c.args.script.now c.in-Err.fault c.in-Err.ensures
