use Rattle.std.proofs.Common.{arith}
use Rattle.choices.proofs.ByPlace.{count_left, count_taken}
use Rattle.choices.proofs.order.count_of.Goals as goal
use Rattle.choices.proofs.order.count_of.Goals.{then-choice-place, else-choice-place}

pub loop-place-preserved : goal.loop-place-preserved
loop-place-preserved c = elim c.if-choice-place.branch [
  | then-choice-place w ↦
      let here = count_taken c.args.costs.now c.args.choice.now c.loop-place.place c.loop-place-test.true c.requires w.if-choice-place.true in
      record { rest = omega (arith, here, w.count-is, c.loop-place.invariant.rest); small = omega (arith, w.count-is, c.loop-place.invariant.small) }
  | else-choice-place w ↦
      let here = count_left c.args.costs.now c.args.choice.now c.loop-place.place c.loop-place-test.true c.requires w.if-choice-place.false in
      record { rest = omega (arith, here, w.count-is, c.loop-place.invariant.rest); small = omega (arith, w.count-is, c.loop-place.invariant.small) }
]
