use Rattle.added_fences.proofs.QuestionsKept.{broken_too, kept_too}
use Rattle.added_fences.proofs.laws.more_is_broken_less.Goals as goal

pub returns-clause-breaks : goal.returns-clause-breaks
returns-clause-breaks c = λ question more less loadable h. broken_too more less loadable h question

pub returns-clause-holds : goal.returns-clause-holds
returns-clause-holds c = λ question more less loadable h. kept_too more less loadable h question
