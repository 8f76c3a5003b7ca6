use Rattle.added_fences.proofs.QuestionsKept.{end_of_runs_too, image_of_runs_too}
use Rattle.added_fences.proofs.laws.what_more_leaves_less_leaves.Goals as goal

pub returns-clause-images : goal.returns-clause-images
returns-clause-images c = λ crashes more less image loadable h. image_of_runs_too more less loadable h crashes image

pub returns-clause-ends : goal.returns-clause-ends
returns-clause-ends c = λ crashes recovered more less t loadable h. end_of_runs_too more less loadable h crashes recovered t
