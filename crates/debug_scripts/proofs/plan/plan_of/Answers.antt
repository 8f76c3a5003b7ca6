use Rattle.debug_scripts.proofs.OwnIds.{made_own}
use Rattle.debug_scripts.proofs.plan.plan_of.Goals as goal

pub plan_on-requires : goal.plan_on-requires
plan_on-requires c = made_own _ _ _ c.in-Ok.ensures
