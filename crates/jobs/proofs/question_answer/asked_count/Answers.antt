use Rattle.std.proofs.Common.{rules}
use Rattle.jobs.proofs.question_answer.asked_count.Goals as goal

pub returns : goal.returns
returns c = search rules
