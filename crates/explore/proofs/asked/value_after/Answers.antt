use Rattle.std.proofs.Common.{rules, ◌≡◌, ◌≢◌, ◌∙◌}
use Rattle.explore.proofs.AskedSteps.{value_stays, value_written}
use Rattle.explore.proofs.asked.value_after.Goals.{then-eq, else-eq}
use Rattle.explore.proofs.asked.value_after.Goals as goal

pub loop-i-preserved : goal.loop-i-preserved
loop-i-preserved c =
    let m = c.args.pending.now.memory in
    let word = c.args.word in
    let target = c.write-target.result.0 in
    let written = c.write-target.result.1 in
    let at = rw c.line.ensures at c.write-target.ensures in
    elim c.if-eq.branch [
      | then-eq w ↦ let same : target ≡ word = search rules in w.value-is ∙ value_written m c.loop-i.i word target written at same
      | else-eq w ↦ let differ : target ≢ word = search rules in w.value-is ∙ value_stays m c.loop-i.i word target written c.loop-i.value at differ c.loop-i.invariant
    ]
