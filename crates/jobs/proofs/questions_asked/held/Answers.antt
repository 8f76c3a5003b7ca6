use Rattle.std.proofs.Common.{◌∙◌, ap}
use Rattle.std.proofs.lemmas.Result.{err_from_is_err_and}
use Rattle.questions.specs.Questions.{NamedQuestion}
use Rattle.jobs.specs.Questions.{held_answer}
use Rattle.jobs.proofs.AnswersAreRight.{held_is_told, unsaid}
use Rattle.jobs.proofs.questions_asked.held.Goals as goal

pub returns-in_err-is_asked : goal.returns-in_err-is_asked
returns-in_err-is_asked g c = λ there found.
    let e = err_from_is_err_and c.from_residual.result c.from_residual.ensures.1 in
    rw (e.1, e.2) (unsaid c.args.options.now c.args.start.now c.args.question _ (c.in_err-is_asked.ensures found.1.0 found.1.1 found.1.2 found.1.3))

pub returns : goal.returns
returns g c = λ there found.
    held_is_told c.args.options.now c.args.start.now c.args.question c.in_ok-is_asked.is_asked c.plain.result c.plain.ensures.question
    (c.plain.ensures.answer ∙ (c.held_answer-answer.ensures ∙ ap (λ (q : NamedQuestion). held_answer q.every c.in_ok-is_asked.is_asked) c.question.view_is)) (c.in_ok-is_asked.ensures found.1.0 found.1.1 found.1.2 found.1.3) there found.0
