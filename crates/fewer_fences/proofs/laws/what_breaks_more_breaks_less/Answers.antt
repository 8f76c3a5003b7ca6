use Rattle.fewer_fences.proofs.QuestionsKept.{broken_too}
use Rattle.fewer_fences.proofs.laws.what_breaks_more_breaks_less.Goals as goal

pub returns : goal.returns
returns c = λ question more less loadable h. broken_too more less loadable h question
