use Rattle.std.proofs.Common.{sym, ap, ◌∙◌}
use Rattle.rand_pcg.specs.Pcg.{multiplier_64}
use Rattle.schedule.specs.Schedules.{generator_of}
use Rattle.schedule.proofs.OneTurn.{advance-none}
use Rattle.schedule.proofs.plan.Turns.new.Goals as goal

pub invariant_of-result : goal.invariant_of-result
invariant_of-result c =
    let plan = c.args.plan.now in
    c.new.ensures ∙ ap (λ n. generator_of plan n) (sym c.of.ensures) ∙ sym (advance-none 64 multiplier_64 (generator_of plan c.of.result.value))
