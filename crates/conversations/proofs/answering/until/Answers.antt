use Rattle.conversations.proofs.answering.until.Goals as goal

pub returns-clause-answers : goal.returns-clause-answers
returns-clause-answers g c = rw (c.deref.ensures.value, c.in_ok-steps.ensures, c.machine.ensures) at c.make.ensures.answers
