use Rattle.commands.specs.OutcomeTexts.{register_text}
use Rattle.commands.proofs.NamedTexts.{one_more}
use Rattle.commands.proofs.outcome_text.push_registers.Goals as goal

pub loop-r-preserved : goal.loop-r-preserved
loop-r-preserved c = one_more (register_text c.args.p c.args.values.now) _ _ _ _ _ _ c.loop-r-test.true c.loop-r.invariant c.in_ok-push_register.ensures
