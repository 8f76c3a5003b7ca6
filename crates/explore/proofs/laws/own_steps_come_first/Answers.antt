use Rattle.explore.proofs.OwnStepsEnd.{own_step_leads}
use Rattle.explore.proofs.laws.own_steps_come_first.Goals as goal

pub returns : goal.returns
returns c = λ sets locals s t is. let (step, seen, move, made, own) = is in own_step_leads sets locals s t step seen move made own
