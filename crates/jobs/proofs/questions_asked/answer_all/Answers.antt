use Rattle.std.proofs.Common.{List, Ok, map, subst}
use Rattle.std.specs.Prelude.{vec_items}
use Rattle.std.specs.Vec.Iter.{into_iter_items}
use Rattle.questions.specs.Questions.{NamedQuestion}
use Rattle.jobs.specs.Questions.{AreTogether}
use Rattle.jobs.proofs.QuestionsInTurn.{asking_again, one_more, told_from, AreSoFar}
use Rattle.jobs.proofs.QuestionsJoin.{found_from, is_found}
use Rattle.jobs.proofs.questions_asked.answer_all.Goals as goal

pub loop-question-preserved : goal.loop-question-preserved
loop-question-preserved g c =
    let was = c.loop-question.invariant in
    let answers = vec_items c.loop-question.answers in
    let questions = vec_items c.args.questions in
    let options = c.args.options.now in
    let start = c.args.start.now in
    let told = told_from options start c.loop-question.start c.in-Some.question (Ok c.in_ok-one.one) was.0 c.in_ok-one.ensures.told in
    let so_far = subst (λ (rest : List NamedQuestion). AreSoFar options start questions rest answers) c.in-Some.ensures.steps.0 was.1 in (
      asking_again start c.loop-question.start c.answer_one.new.start was.0 c.answer_one.ensures.kept,
      one_more options start questions (into_iter_items c.next.new.self) c.in-Some.question answers (vec_items c.keep.new.answers) c.in_ok-one.one c.in_ok-keep.ensures told.0 told.1 so_far,
    )

pub answer_one-requires-clause-together : goal.answer_one-requires-clause-together
answer_one-requires-clause-together g c =
    let was = c.loop-question.invariant in
    let options = c.args.options.now in
    let start = c.args.start.now in
    let answers = vec_items c.loop-question.answers in
    let questions = vec_items c.args.questions in
    let q = c.in-Some.question in
    let rest = into_iter_items c.next.new.self in
    let so_far = subst (λ (rest : List NamedQuestion). AreSoFar options start questions rest answers) c.in-Some.ensures.steps.0 was.1 in
    let together = c.in_ok-together.together in
    let are = subst (λ (qs : List NamedQuestion). AreTogether options start qs together) c.deref.ensures.value c.in_ok-together.ensures in
    found_from options start c.loop-question.start q together was.0
    (is_found options start questions together (map (λ one. one.question) answers) q rest are so_far.0)
