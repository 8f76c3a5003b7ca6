use Rattle.debug_scripts.proofs.Plans.{orders_put_as, orders_unput_as}
use Rattle.debug_scripts.proofs.command.report_plan.Goals as goal

pub returns-in-Ok : goal.returns-in-Ok
returns-in-Ok c = rw c.report_in.ensures (orders_put_as c.args.made c.layout.result.now _ c.made.inside.machine c.made.inside.script _ c.layout.ensures c.made.view_is c.in-Ok.ensures)

pub returns-in-Err : goal.returns-in-Err
returns-in-Err c = orders_unput_as c.args.made c.layout.result.now _ c.made.inside.machine c.made.inside.script _ c.layout.ensures c.made.view_is c.in-Err.ensures
