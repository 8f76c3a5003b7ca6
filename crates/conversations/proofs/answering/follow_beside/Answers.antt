use Rattle.conversations.proofs.AnswersGiven.{followed_so}
use Rattle.conversations.proofs.answering.follow_beside.Goals as goal

pub returns-clause-answers : goal.returns-clause-answers
returns-clause-answers g c =
    followed_so c.args.lined.now _ _ c.args.desk.now.ahead _ _ _ _ _ _ c.args.command.now c.requires.beside (rw c.layout.ensures at c.in_ok-follow.ensures.follows) c.requires.empty c.forget_by.ensures
