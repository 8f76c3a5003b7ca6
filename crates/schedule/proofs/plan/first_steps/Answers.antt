use Rattle.std.proofs.Common.{◌≡◌, ap, ◌∙◌, subst, List, IfOk}
use Rattle.machine.specs.declared.step.Step.{Step}
use Rattle.schedule.specs.declared.plan.Plan.{Plan}
use Rattle.schedule.specs.Schedules.{schedule_of}
use Rattle.schedule.proofs.FirstTurns.{first_turns}
use Rattle.schedule.proofs.plan.first_steps.Goals as goal

pub returns : goal.returns
returns c =
    let s = c.args.machine.now in
    let is = ap (λ (p : Plan). (schedule_of p c.args.number s).steps) c.cut_to.ensures ∙ first_turns c.args.plan.now c.args.number c.args.turns s in
    record { steps = subst (λ (l : List Step). IfOk c.plan_steps.result (λ steps. steps.items ≡ l)) is c.plan_steps.ensures.steps }
