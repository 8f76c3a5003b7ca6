use Rattle.std.proofs.Common.{sym}
use Rattle.schedule.proofs.StepLines.{at_bad}
use Rattle.schedule.proofs.step_text.read_steps.Goals as goal

pub returns-in-Err : goal.returns-in-Err
returns-in-Err c = at_bad _ _ _ _ c.loop-line.invariant.same _ _ _ c.in-Some.ensures.steps (sym c.in-Err.ensures)
