use Rattle.conversations.proofs.answering.crash_after.Goals as goal

pub returns-clause-answers : goal.returns-clause-answers
returns-clause-answers g c = rw (c.deref.ensures.value, c.in_ok-steps.ensures, c.look.ensures) at c.make.ensures.answers
