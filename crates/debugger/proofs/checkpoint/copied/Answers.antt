use Rattle.debugger.proofs.SpareMachines.{one_spare}
use Rattle.debugger.proofs.checkpoint.copied.Goals as goal

pub restore-requires : goal.restore-requires
restore-requires c = one_spare c.args.machine.now _ _ _ c.take.ensures.value c.in-Some.is c.requires
