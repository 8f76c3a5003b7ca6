use Rattle.std.proofs.Common.{rules, ◌≡◌, None, subst}
use Rattle.questions.specs.Questions.{NamedQuestion}
use Rattle.jobs.specs.Questions.{side_of, IsAskedAt, Tells}
use Rattle.jobs.proofs.AnswersAreRight.{asked_by_place, no_side_of_some, no_side_without_left}
use Rattle.jobs.proofs.questions_asked.is_asked.Goals.{in_default-via-in-Some+else-question, in_default-via-in_default}
use Rattle.jobs.proofs.questions_asked.is_asked.Goals as goal

pub returns-in_default : goal.returns-in_default
returns-in_default g c = λ asked limit crashing are.
    let none : side_of c.args.question.now ≡ None = elim c.in_default.branch [
      | in_default-via-in-Some+else-question w ↦ search (rules, no_side_of_some)
      | in_default-via-in_default w ↦ search (rules, no_side_without_left)
    ] in
    let told = subst (λ (q : NamedQuestion). Tells c.is_place_there.result (IsAskedAt q.place asked.crashes None c.args.start.now.machine)) c.question.view_is
    (c.is_place_there.ensures asked c.args.start.now.machine limit are) in
    asked_by_place c.args.options.now c.args.start.now c.args.question.now asked _ none crashing told
