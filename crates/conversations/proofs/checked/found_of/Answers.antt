use Rattle.conversations.proofs.checked.found_of.Goals as goal

pub returns-in-Ok : goal.returns-in-Ok
returns-in-Ok c = rw (c.question_of-question.ensures, c.in-Ok.ensures.left) at (c.check-found.ensures c.in-Ok.ensures.sound)
