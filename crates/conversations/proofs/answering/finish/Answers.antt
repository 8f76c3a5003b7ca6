use Rattle.conversations.proofs.answering.finish.Goals as goal

pub returns-clause-answers : goal.returns-clause-answers
returns-clause-answers g c = rw (c.deref.ensures.value, c.in_ok-steps.ensures) at c.make.ensures.answers
