use Rattle.std.proofs.Common.{◌≡◌, drop}
use Rattle.jobs.specs.QuestionReports.{first_bad}
use Rattle.jobs.proofs.question_answer.first_bad.Given as goal

abbrev pub invariant-loop-one : goal.invariant-loop-one
invariant-loop-one l = first_bad (drop l.one-index l.answers) ≡ first_bad l.answers
