use Rattle.debug_scripts.proofs.Plans.{report_put_as, report_unput_as}
use Rattle.debug_scripts.proofs.plan.report_of.Goals as goal

pub returns-in-Ok : goal.returns-in-Ok
returns-in-Ok g c = rw c.report_in.ensures (report_put_as c.args.made c.layout.result.now _ c.made.inside.machine c.made.inside.script _ c.layout.ensures c.made.view_is c.in-Ok.ensures)

pub returns-in-Err : goal.returns-in-Err
returns-in-Err g c = report_unput_as c.args.made c.layout.result.now _ c.made.inside.machine c.made.inside.script _ c.layout.ensures c.made.view_is c.in-Err.ensures
