use Rattle.conversations.proofs.answering.run.Goals as goal

pub returns-clause-answers : goal.returns-clause-answers
returns-clause-answers g c = rw (c.deref.ensures.value, c.in_ok-steps.ensures, c.machine.ensures, c.min.ensures) at c.make.ensures.answers
