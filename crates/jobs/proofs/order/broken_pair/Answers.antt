use Rattle.std.proofs.Common.{Ok, ap}
use Rattle.machine.specs.LooseSteps.{loose_run_of}
use Rattle.machine.specs.Objects.{opening}
use Rattle.machine.specs.TraceLaws.{law_of}
use Rattle.commands.specs.Works.{Makes}
use Rattle.jobs.proofs.order.broken_pair.Goals as goal

pub returns-in-Ok : goal.returns-in-Ok
unfolding Makes
returns-in-Ok c =
    ap Ok (c.order_has_one_answer.ensures (loose_run_of c.args.steps.now (opening c.args.object.now)) (law_of c.args.object.now c.args.steps.now) c.in-Ok.found
    (c.law_is_the_answer.ensures c.args.object.now c.args.steps.now) c.in-Ok.ensures.answer)
