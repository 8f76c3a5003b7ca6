use Rattle.std.proofs.Common.{◌≡◌, rules}
use Rattle.std.proofs.lemmas.Result.{err_from_is_err_and}
use Rattle.json_jobs.specs.JsonAnswers.{json_command_of}
use Rattle.json_jobs.proofs.ReportsOfPrograms.{made_of_program, unmade}
use Rattle.json_jobs.proofs.report.json_report.Goals as goal

pub returns : goal.returns
unfolding json_command_of
returns c =
    let program : c.deref.result.now ≡ c.args.sources.now.program = search rules in
    let steps : c.deref-2.result.now ≡ c.args.sources.now.steps = search rules in
    made_of_program c.args.job.now c.args.sources.now c.in_ok-program.program _ (rw program at c.in_ok-program.ensures)
    (rw steps at c.json_on-report.ensures.report) (rw steps at c.json_on-report.ensures.exact)

pub returns-in_err-program : goal.returns-in_err-program
unfolding json_command_of
returns-in_err-program c =
    let program : c.deref.result.now ≡ c.args.sources.now.program = search rules in
    let e = err_from_is_err_and c.from_residual.result c.from_residual.ensures.1 in
    rw (e.1, e.2) (unmade c.args.job.now c.args.sources.now _ (rw program at c.in_err-program.ensures))
