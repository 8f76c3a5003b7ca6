use Rattle.std.proofs.Common.{Ok, subst, sym}
use Rattle.std.proofs.lemmas.Result.{err_from_is_err_and}
use Rattle.questions.specs.Questions.{Questioned}
use Rattle.commands.specs.Programs.{lined_work}
use Rattle.commands.specs.Works.{Makes}
use Rattle.commands.proofs.LinedPrograms.{asked_fault, asked_is_lined}
use Rattle.commands.proofs.program.read_lined.Goals as goal

pub returns : goal.returns
returns c =
    let made = asked_is_lined c.args.bytes.now c.in_ok-asked.asked c.in_ok-asked.ensures in
    subst (λ (q : Questioned). Makes (lined_work c.args.bytes.now) (Ok q.lined)) (sym c.asked.view_is) made

pub returns-in_err-asked : goal.returns-in_err-asked
returns-in_err-asked c =
    let e = err_from_is_err_and c.from_residual.result c.from_residual.ensures.1 in
    rw (e.1, e.2) (asked_fault c.args.bytes.now _ c.in_err-asked.ensures)
