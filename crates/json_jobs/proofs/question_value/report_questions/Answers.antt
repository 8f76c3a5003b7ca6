use Rattle.std.proofs.Common.{◌≡◌, ◌∙◌, ℕ, List, Ok, ap, inl, subst}
use Rattle.std.specs.Prelude.{option_copied}
use Rattle.commands.specs.Serving.{Sources}
use Rattle.commands.specs.Works.{Makes}
use Rattle.jobs.specs.Questions.{Asking, asking_start}
use Rattle.jobs.specs.QuestionReports.{IsReported}
use Rattle.json_jobs.specs.QuestionData.{ask_command, found_json}
use Rattle.json_jobs.proofs.question_value.report_questions.Goals as goal

pub returns : goal.returns
unfolding ask_command
returns g c =
    let options = c.args.options.now in
    let asking = c.in_ok-start.field-0 in
    let program : c.deref.result.now ≡ c.args.sources.now.program = c.deref.ensures.value ∙ ap (λ (s : Sources). s.program) c.sources.view_is in
    let steps : c.deref-2.result.now ≡ c.args.sources.now.steps = c.deref-2.ensures.value ∙ ap (λ (s : Sources). s.steps) c.sources.view_is in
    let here = subst (λ (p : List ℕ). Makes (asking_start options p c.deref-2.result.now) (Ok asking)) program c.in_ok-start.ensures.start in
    let begun = subst (λ (s : List ℕ). Makes (asking_start options c.args.sources.now.program s) (Ok asking)) steps here in
    let right = subst (λ (a : Asking). IsReported (found_json (option_copied c.args.file) options) options a c.answers_report-report.result) c.start.view_is c.answers_report-report.ensures in
    inl (asking, begun, right)
