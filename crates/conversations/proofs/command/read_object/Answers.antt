use Rattle.std.proofs.Common.{Ok, Err, refl}
use Rattle.conversations.proofs.command.read_object.Goals as goal

pub returns-in-Ok : goal.returns-in-Ok
returns-in-Ok g c = record { read = Ok c.in-Ok.sources; reads = c.in-Ok.ensures; makes = c.object_in.ensures }

pub returns-in-Err : goal.returns-in-Err
returns-in-Err g c = record { read = Err c.in-Err.fault; reads = c.in-Err.ensures; makes = refl }
