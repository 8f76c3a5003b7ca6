use Rattle.conversations.proofs.AnswersGiven.{replied}
use Rattle.conversations.proofs.turns.reply_stop.Goals as goal

pub returns-in-Ok-clause-went : goal.returns-in-Ok-clause-went
returns-in-Ok-clause-went g c = replied (g.T.Terminal.went c.args.terminal.now c.tell.new.terminal) _ _ _ _ _ c.tell.result c.in-Ok.ensures.answers c.as_bytes.ensures.value c.tell.ensures.told
