use Rattle.conversations.proofs.AnswersGiven.{back_keeps, taken_back}
use Rattle.conversations.proofs.answering.take_back.Goals as goal

pub returns-clause-answers : goal.returns-clause-answers
returns-clause-answers g c =
    taken_back _ _ c.args.count _ _ c.undo-gone.result c.push_back.result c.undo-gone.ensures.fault c.undo-gone.ensures.far c.undo-gone.ensures.session c.undo-gone.ensures.same
    c.push_back.ensures c.requires.empty

pub returns-clause-shape : goal.returns-clause-shape
returns-clause-shape g c = back_keeps _ _ c.args.count c.undo-gone.result c.undo-gone.ensures.session c.undo-gone.ensures.same
