use Rattle.conversations.specs.HelpTexts.{row_line}
use Rattle.commands.proofs.NamedTexts.{one_more}
use Rattle.conversations.proofs.help.push_help.Goals as goal

pub loop-word-preserved : goal.loop-word-preserved
loop-word-preserved c = one_more row_line _ _ _ _ _ _ c.loop-word-test.true c.loop-word.invariant c.in_ok-push_row.ensures
