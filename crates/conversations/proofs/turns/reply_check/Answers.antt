use Rattle.conversations.proofs.AnswersGiven.{checked_so, replied}
use Rattle.conversations.proofs.turns.reply_check.Goals as goal

pub returns-in-Ok-clause-went : goal.returns-in-Ok-clause-went
returns-in-Ok-clause-went g c = record {
  found = c.found_of-found.result;
  is = rw c.steps.ensures at c.found_of-found.ensures;
  replies = replied (g.T.Terminal.went c.args.terminal.now c.tell.new.terminal) _ _ _ _ _ c.tell.result
      (checked_so _ _ _ _ _ c.found_of-found.result _ c.in-Ok.ensures.ahead c.in-Ok.ensures.declared c.in-Ok.ensures.text) c.as_bytes.ensures.value c.tell.ensures.told;
}

pub returns-clause-went : goal.returns-clause-went
returns-clause-went g c = record {
  found = c.found_of-found.result;
  is = rw c.steps.ensures at c.found_of-found.ensures;
  replies = g.met.T.Terminal.nothing _;
}
