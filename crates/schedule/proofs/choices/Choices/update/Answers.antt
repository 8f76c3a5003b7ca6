use Rattle.std.proofs.Common.{arith, length, ◌∙◌}
use Rattle.isa.specs.Loadables.{max_processors}
use Rattle.lines_layout.specs.Lines.{max_lines}
use Rattle.machine.specs.declared.step.Step.TheVariants.{Exec}
use Rattle.schedule.proofs.LazyChoices.{lazy_steps}
use Rattle.schedule.proofs.MaskNumbers.{few_below, none_in}
use Rattle.schedule.proofs.MaskedSteps.{all_steps, few_accepted}
use Rattle.schedule.proofs.choices.Choices.update.Goals as goal

pub invariant_of-self : goal.invariant_of-self
invariant_of-self c =
    let s = c.args.machine.now in
    let counted = c.update_drains-self-inside.ensures in (
      counted.few,
      rw c.from-self-inside.ensures (few_accepted s Exec (length s.processors) max_processors c.runnable.result (omega (arith, c.runnable.type_inv)) c.runnable.ensures (omega (arith, counted.count, counted.few))),
      rw none_in (omega arith),
    )

pub invariant_of-self-else-lazy : goal.invariant_of-self-else-lazy
invariant_of-self-else-lazy c =
    let s = c.args.machine.now in
    let counted = c.update_drains-self-inside.ensures in (
      counted.few,
      rw c.from-self-inside.ensures (few_accepted s Exec (length s.processors) max_processors c.runnable.result (omega (arith, c.runnable.type_inv)) c.runnable.ensures (omega (arith, counted.count, counted.few))),
      rw c.from-self-inside-else-lazy.ensures (few_below max_lines c.persistable.result c.persistable.type_inv (omega (arith, c.persistable.type_inv))),
    )

pub returns-then-lazy : goal.returns-then-lazy
returns-then-lazy c =
    rw c.if-lazy.true
    (lazy_steps c.args.machine.now c.from-self-inside.result _ c.from-self-inside.type_inv (c.from-self-inside.ensures ∙ c.runnable.ensures) c.update_drains-self-inside.ensures.steps)

pub returns-else-lazy : goal.returns-else-lazy
returns-else-lazy c =
    rw c.if-lazy.false
    (all_steps c.args.machine.now c.from-self-inside.result c.from-self-inside-else-lazy.result _ c.is_none-self-inside.result c.check.result c.from-self-inside.type_inv (c.from-self-inside.ensures ∙ c.runnable.ensures)
    c.update_drains-self-inside.ensures.steps c.from-self-inside-else-lazy.type_inv (c.from-self-inside-else-lazy.ensures ∙ c.persistable.ensures) c.check.ensures c.is_none-self-inside.ensures)
