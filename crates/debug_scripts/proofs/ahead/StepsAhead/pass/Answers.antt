use Rattle.std.proofs.Common.{◌≡◌, [], drop, length, ◌∙◌, ap, arith}
use Rattle.debug_scripts.specs.Ahead.{Ahead, all_ahead, steps_ahead}
use Rattle.debug_scripts.proofs.StepsLeft.{passed}
use Rattle.debug_scripts.proofs.ahead.StepsAhead.pass.Goals as goal

pub returns : goal.returns
returns c =
    let own = c.self.inside in
    let whole : own.steps.len ≡ length own.steps.items = omega (arith, own.steps.ok.0) in
    rw (c.len-self-inside.ensures, whole) (passed own.steps.items own.rest_at own.gathered_at c.args.count c.self.invariant.0 c.self.invariant.1
    ∙ ap (λ (a : Ahead). steps_ahead (drop c.args.count (all_ahead a)) []) c.self.view_is)
