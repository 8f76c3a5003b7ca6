use Rattle.std.specs.Prelude.{option_copied}
use Rattle.jobs.proofs.QuestionsReported.{reported_later}
use Rattle.jobs.proofs.question_report.answers_report.Goals as goal

pub returns : goal.returns
returns g c =
    reported_later (option_copied c.args.file) c.args.options.now (record { start = c.args.start.now; questions = c.args.questions.items }) c.find_answers-found.new.start c.find_answers-found.result c.print_found.result
    c.requires c.find_answers-found.ensures.kept c.find_answers-found.ensures.found c.print_found.ensures
