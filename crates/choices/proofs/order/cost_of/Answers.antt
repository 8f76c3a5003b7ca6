use Rattle.std.proofs.Common.{arith}
use Rattle.choices.proofs.ByPlace.{cost_left, cost_taken}
use Rattle.choices.proofs.order.cost_of.Goals as goal
use Rattle.choices.proofs.order.cost_of.Goals.{then-choice-place, else-choice-place}

pub loop-place-preserved : goal.loop-place-preserved
loop-place-preserved c = elim c.if-choice-place.branch [
  | then-choice-place w ↦
      let here = cost_taken c.args.costs.now c.args.choice.now c.loop-place.place c.loop-place-test.true c.requires w.if-choice-place.true in
      let small = c.type_inv.costs c.loop-place.place in
      record { rest = omega (arith, here, w.total-is, w.from-total.ensures, c.loop-place.invariant.rest); small = omega (arith, w.total-is, w.from-total.ensures, small, c.loop-place.invariant.small) }
  | else-choice-place w ↦
      let here = cost_left c.args.costs.now c.args.choice.now c.loop-place.place c.loop-place-test.true c.requires w.if-choice-place.false in
      record { rest = omega (arith, here, w.total-is, c.loop-place.invariant.rest); small = omega (arith, w.total-is, c.loop-place.invariant.small) }
]
