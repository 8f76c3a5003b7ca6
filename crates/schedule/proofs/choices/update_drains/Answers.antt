use Rattle.std.proofs.Common.{◌<◌, ◌≡◌, ap, arith, length, take, ◌∙◌}
use Rattle.std.proofs.Math.ListN.{length-set}
use Rattle.std.proofs.lemmas.List.{length-take, take_more_set}
use Rattle.machine.specs.State.{State}
use Rattle.schedule.specs.Choices.{drains_in}
use Rattle.schedule.proofs.MaskedSteps.{one_more}
use Rattle.schedule.proofs.choices.update_drains.Goals as goal

pub loop-p-preserved : goal.loop-p-preserved
loop-p-preserved c =
    let s = c.args.machine.now in
    let p = c.loop-p.p in
    let masks = c.loop-p.masks in
    let i = c.loop-p.invariant in
    let counted = c.cpus-processors.ensures in
    let there : p < length s.processors = omega (arith, c.loop-p-test.true, counted.value, ap (λ (v : State). length v.processors) c.view.ensures) in
    let within : p < length masks = omega (arith, c.loop-p-test.true, counted.value, counted.few, i.each) in
    let long : length (take p masks) ≡ p = omega (arith, length-take p masks, within) in
    record {
      steps = ap (drains_in 0) (take_more_set masks p c.drainable.result within)
          ∙ one_more s p (take p masks) c.drainable.result there long c.drainable.type_inv c.drainable.ensures i.steps;
      each = length-set masks p c.drainable.result ∙ i.each;
    }
