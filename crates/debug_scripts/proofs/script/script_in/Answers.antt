use Rattle.std.proofs.Common.{sym, ◌∙◌}
use Rattle.std.proofs.lemmas.Result.{err_from_is_err_and}
use Rattle.debug_scripts.proofs.ScriptLines.{at_bad, at_error}
use Rattle.debug_scripts.proofs.script.script_in.Goals as goal

pub returns-in-Err : goal.returns-in-Err
returns-in-Err c = sym c.loop-line.invariant.same ∙ at_bad _ _ _ _ _ _ _ c.in-Some.ensures.steps (sym c.in-Err.ensures)

pub returns-in_err-add-in-Ok : goal.returns-in_err-add-in-Ok
returns-in_err-add-in-Ok c =
    let e = err_from_is_err_and c.from_residual.result c.from_residual.ensures.1 in
    rw (e.1, e.2, ← c.loop-line.invariant.same) (at_error _ _ _ _ _ _ _ _ c.in-Some.ensures.steps (sym c.in-Ok.ensures) c.in_err-add-in-Ok.ensures)
