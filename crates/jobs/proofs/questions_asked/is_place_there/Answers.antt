use Rattle.std.proofs.Common.{true}
use Rattle.questions.specs.declared.question.Place.TheVariants as places
use Rattle.jobs.proofs.AnswersAreRight.{at_place, end_told, recovery_told, start_is_there}
use Rattle.jobs.proofs.questions_asked.is_place_there.Goals as goal

pub returns-in-Crash : goal.returns-in-Crash
returns-in-Crash c = λ question start limit are. at_place c.args.place places.Crash true question.crashes start c.in-Crash.is (start_is_there question.crashes start)

pub returns-in-End : goal.returns-in-End
returns-in-End c = λ question start limit are.
    at_place c.args.place places.End _ question.crashes start c.in-End.is
    (end_told question start limit c.args.found.now c.ends.result.now c.is_empty.result are c.ends.ensures c.is_empty.ensures)

pub returns-in-Recovery : goal.returns-in-Recovery
returns-in-Recovery c = λ question start limit are.
    at_place c.args.place places.Recovery _ question.crashes start c.in-Recovery.is
    (recovery_told question start limit c.args.found.now c.recovered.result.now c.is_empty-in-Recovery.result are c.recovered.ensures c.is_empty-in-Recovery.ensures)
