use Rattle.std.proofs.Common.{Option, IfSome, subst}
use Rattle.machine.specs.Objects.{opening}
use Rattle.machine.specs.State.{State}
use Rattle.causes.specs.Enough.{HasPersisted}
use Rattle.causes.proofs.Leads.{reached_on}
use Rattle.causes.proofs.keeps.is_enough_behind.Goals as goal

pub keeps_behind-requires : goal.keeps_behind-requires
keeps_behind-requires g c =
    let there = subst (λ (found : Option State). IfSome found (HasPersisted c.args.machine.now c.args.write.now)) c.in-Some.is c.in_ok-there.ensures in
    reached_on (opening c.args.object.now) c.args.machine.now c.in-Some.there c.requires there.on
