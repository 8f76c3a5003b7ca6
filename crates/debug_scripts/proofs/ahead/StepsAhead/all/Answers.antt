use Rattle.std.proofs.Common.{List, drop, sym, ◌∙◌, ap}
use Rattle.machine.specs.declared.step.Step.{Step}
use Rattle.debug_scripts.specs.Ahead.{Ahead, all_ahead}
use Rattle.debug_scripts.proofs.StepsLeft.{both_from}
use Rattle.debug_scripts.proofs.ahead.StepsAhead.all.Goals as goal

pub returns : goal.returns
returns c =
    let own = c.self.inside in
    c.split_at.ensures.back ∙ ap (λ (ys : List Step). drop own.rest_at ys) c.as_slice.ensures.value
    ∙ sym (both_from own.steps.items own.rest_at own.gathered_at c.self.invariant.0 c.self.invariant.1) ∙ ap (λ (a : Ahead). all_ahead a) c.self.view_is
