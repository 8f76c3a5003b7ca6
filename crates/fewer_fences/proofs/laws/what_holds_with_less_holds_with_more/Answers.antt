use Rattle.fewer_fences.proofs.QuestionsKept.{kept_too}
use Rattle.fewer_fences.proofs.laws.what_holds_with_less_holds_with_more.Goals as goal

pub returns : goal.returns
returns c = λ question more less loadable h. kept_too more less loadable h question
