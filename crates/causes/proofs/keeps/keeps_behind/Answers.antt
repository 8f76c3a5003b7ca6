use Rattle.machine.specs.declared.step.Step.TheVariants.{Crash}
use Rattle.machine.specs.Objects.{opening}
use Rattle.causes.proofs.Leads.{reached_by_a_step}
use Rattle.causes.proofs.keeps.keeps_behind.Goals as goal

pub keeps-requires : goal.keeps-requires
keeps-requires g c = reached_by_a_step (opening c.args.object.now) c.args.machine.now c.step.new.self Crash c.in-Ok.field-0 c.requires c.in-Ok.ensures.accepted
