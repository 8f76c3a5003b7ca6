use Rattle.std.proofs.Common.{◌∙◌, ◌++◌, ◌∷◌, [], sym, ap, arith}
use Rattle.arrayvec.specs.ArrayVec.{ArrayVec}
use Rattle.machine.specs.declared.step.Step.{Step}
use Rattle.schedule.proofs.NthElementOrRest.{none_there, one_more_taken}
use Rattle.schedule.proofs.choices.enabled.Goals.{in-Some, in_default}
use Rattle.schedule.proofs.choices.enabled.Goals as goal

pub loop-n-preserved : goal.loop-n-preserved
loop-n-preserved c = elim c.match-step.branch [
  | in-Some w ↦
      ap (λ (s : ArrayVec Step). s.items) w.steps-is ∙ (w.push.ensures.items ∙ (ap (λ l. l ++ w.in-Some.step ∷ []) c.loop-n.invariant
      ∙ sym (one_more_taken c.update.new.self c.loop-n.n w.in-Some.step (sym c.step.ensures ∙ w.in-Some.is))))
  | in_default w ↦ absurd (none_there c.update.new.self c.loop-n.n (omega (arith, c.loop-n-test.true, c.count-n-end.ensures.value)) (sym c.step.ensures ∙ w.in_default.is))
]
