use Rattle.std.proofs.Common.{◌≡◌, drop}
use Rattle.jobs.specs.Questions.{joined_all, kept_together}
use Rattle.jobs.proofs.questions_joined.kept_together.Given as goal

abbrev pub invariant-loop-question : goal.invariant-loop-question
invariant-loop-question l = joined_all l.place l.together (drop l.question-index l.questions) ≡ kept_together l.place l.questions
