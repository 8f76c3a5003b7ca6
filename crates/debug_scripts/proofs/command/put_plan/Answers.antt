use Rattle.std.proofs.Common.{arith, refl, rules}
use Rattle.commands.specs.declared.fault.Stage.TheVariants as stages
use Rattle.debug_scripts.proofs.ListsMadeItemByItem.{one_more}
use Rattle.debug_scripts.proofs.Plans.{replies_lack}
use Rattle.debug_scripts.proofs.command.put_plan.Goals as goal

pub loop-order-preserved : goal.loop-order-preserved
loop-order-preserved g c = one_more _ _ _ _ _ _ _ c.order-item.result c.in-Ok-push.ensures.items c.loop-order.invariant c.loop-order-test.true c.order-item.is (search rules)

pub returns-in_default : goal.returns-in_default
returns-in_default g c = rw c.missing.ensures (replies_lack _ stages.Conditions (0, omega arith, refl))

pub returns-in_default-new : goal.returns-in_default-new
returns-in_default-new g c = rw c.missing-in_default-new.ensures (replies_lack _ stages.Session (2, omega arith, refl))

pub returns-in_default-push : goal.returns-in_default-push
returns-in_default-push g c = rw c.missing-in_default-push.ensures (replies_lack _ stages.Session (2, omega arith, refl))
