use Rattle.std.proofs.Common.{arith, refl, rules}
use Rattle.commands.specs.declared.fault.Stage.TheVariants as stages
use Rattle.debug_scripts.specs.DebugPlans.{plan}
use Rattle.debug_scripts.proofs.ListsMadeItemByItem.{one_more}
use Rattle.debug_scripts.proofs.Plans.{replies_lack, put_wider}
use Rattle.debug_scripts.proofs.command.put_stopped.Goals as goal

pub loop-order-preserved : goal.loop-order-preserved
loop-order-preserved g c = one_more _ _ _ _ _ _ _ c.order-item.result c.in-Ok-push.ensures.items c.loop-order.invariant c.loop-order-test.true c.order-item.is (search rules)

pub returns-in_default : goal.returns-in_default
returns-in_default g c = rw c.missing.ensures (replies_lack _ stages.Session (2, omega arith, refl))

pub returns-in_default-push : goal.returns-in_default-push
returns-in_default-push g c = rw c.missing-in_default-push.ensures (replies_lack _ stages.Session (2, omega arith, refl))

pub returns : goal.returns
returns g c = put_wider (g.F.Form.Tells c.args.form.now) (plan (g.F.Form.names c.args.form.now) c.args.machine c.args.script.now) c.put_played.new.page _ c.put_played.ensures
