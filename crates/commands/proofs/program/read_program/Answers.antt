use Rattle.std.proofs.lemmas.Result.{err_from_is_err_and}
use Rattle.commands.proofs.LinedPrograms.{fault_is_read, lined_is_read}
use Rattle.commands.proofs.program.read_program.Goals as goal

pub returns : goal.returns
returns c = lined_is_read c.args.bytes.now c.in_ok-lined.lined c.in_ok-lined.ensures

pub returns-in_err-lined : goal.returns-in_err-lined
returns-in_err-lined c =
    let e = err_from_is_err_and c.from_residual.result c.from_residual.ensures.1 in
    rw (e.1, e.2) (fault_is_read c.args.bytes.now _ c.in_err-lined.ensures)
