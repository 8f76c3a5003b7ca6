use Rattle.std.proofs.Common.{◌∙◌, refl, sym}
use Rattle.conversations.proofs.AnswersGiven.{walked_so}
use Rattle.conversations.proofs.answering.walk.Goals as goal

pub returns-in-Some-clause-answers : goal.returns-in-Some-clause-answers
returns-in-Some-clause-answers g c = walked_so c.args.lined.now _ _ _ _ _ _ _ c.in-Some.step _ c.make.result (sym c.take_first.ensures.first ∙ c.in-Some.is) refl c.in-Some.ensures.taken c.make.ensures.answers
