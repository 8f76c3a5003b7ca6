use Rattle.std.proofs.Common.{◌≡◌}
use Rattle.std.specs.Prelude.{vec_items}
use Rattle.std.specs.Vec.Iter.{into_iter_items}
use Rattle.jobs.specs.Questions.{asking_of}
use Rattle.jobs.proofs.QuestionsInTurn.{AreSoFar}
use Rattle.jobs.proofs.questions_asked.answer_all.Given as goal

abbrev pub invariant-loop-question : goal.invariant-loop-question
invariant-loop-question g l =
    (l.start ≡ asking_of l.start.question l.fn.start)
    × AreSoFar l.options l.fn.start (vec_items l.fn.questions) (into_iter_items l.question-iterator) (vec_items l.answers)
