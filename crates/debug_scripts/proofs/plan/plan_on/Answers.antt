use Rattle.std.proofs.Common.{refl}
use Rattle.debug_scripts.proofs.plan.plan_on.Goals as goal

pub invariant_of-result : goal.invariant_of-result
invariant_of-result c = record { shape = rw c.in-Ok.ensures refl; ids = c.requires }
