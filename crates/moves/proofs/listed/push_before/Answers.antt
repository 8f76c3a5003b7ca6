use Rattle.std.proofs.Common.{◌≡◌, ◌+◌, ◌-◌, ◌∙◌, arith, sym}
use Rattle.image_reasons.specs.declared.repair.Side.TheVariants.{Before}
use Rattle.moves.specs.Moves.{may_go_before, to_side}
use Rattle.moves.proofs.MovesByPlace.{next_down}
use Rattle.moves.proofs.listed.push_before.Goals as goal

pub loop-left-preserved : goal.loop-left-preserved
loop-left-preserved c =
    let left = c.loop-left.left in
    let inv = c.loop-left.invariant in
    let is_left : left ≡ left - 1 + 1 = omega (arith, c.loop-left-test.true) in record {
      within = omega (arith, inv.within);
      rest =
          next_down (to_side c.args.from Before) (may_go_before c.args.code.now c.args.store.now) left (left - 1) _ _ _ is_left
          (sym c.may_go_before.ensures ∙ c.if-may_go_before.true) inv.rest c.in_ok-push.ensures.items;
    }
