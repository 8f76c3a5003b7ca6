use Rattle.std.proofs.Common.{Ok, Err, refl}
use Rattle.conversations.proofs.command.converse.Goals as goal

pub returns-in-Ok : goal.returns-in-Ok
returns-in-Ok g c = record { object = Ok c.in-Ok.lined; reads = c.in-Ok.ensures; answers = c.converse_on.ensures }

pub returns-in-Err : goal.returns-in-Err
returns-in-Err g c = record { object = Err c.in-Err.fault; reads = c.in-Err.ensures; answers = (g.met.T.Terminal.nothing _, refl) }
