use Rattle.std.proofs.Common.{refl, Ok, Err}
use Rattle.commands.specs.declared.fault.Stage.TheVariants as stages
use Rattle.commands.specs.Faults.{missing}
use Rattle.px86.proofs.show.Goals as goal

pub returns-in-Ok : goal.returns-in-Ok
returns-in-Ok g c = record { text = Ok c.in-Ok.report; is = c.in-Ok.ensures; writes = c.write_report.ensures }

pub returns-in-Err : goal.returns-in-Err
returns-in-Err g c = record { text = Err (missing stages.Text); is = refl; writes = (refl, refl) }
