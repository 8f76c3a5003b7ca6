use Rattle.std.proofs.Common.{rules, ◌∙◌, Bool, ap, refl}
use Rattle.jobs.specs.Questions.{may_crash, question_of, IsAskedThere}
use Rattle.jobs.specs.declared.start.Start.{Start}
use Rattle.jobs.proofs.QuestionsInTurn.{told_from}
use Rattle.jobs.proofs.questions_asked.answer_one.Goals.{else-eq-via-then-eq+else-not-crashes, else-eq-via-else-eq}
use Rattle.jobs.proofs.questions_asked.answer_one.Goals as goal

pub returns-clause-told : goal.returns-clause-told
returns-clause-told g c =
    let there : IsAskedThere (may_crash c.args.options.now) c.args.question = λ is. elim c.else-eq.branch [
      | else-eq-via-then-eq+else-not-crashes w ↦ grind rules
      | else-eq-via-else-eq w ↦ grind rules
    ] in
    let now : Start = record c.args.start.now { question = c.in_ok-start.field-0 } in
    let asks = c.in_ok-start.ensures ∙ ap (λ (crashes : Bool). question_of crashes c.args.question) c.may_crash-crashes.ensures in
    told_from c.args.options.now c.args.start.now now c.args.question c.answer_by.result refl (c.answer_by.ensures there asks (c.in_ok-verdict.ensures c.requires.ready.sound))
