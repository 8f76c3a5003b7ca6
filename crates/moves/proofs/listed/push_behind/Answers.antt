use Rattle.std.proofs.Common.{◌≡◌, ◌+◌, ◌-◌, ◌∙◌, arith, length, sym}
use Rattle.image_reasons.specs.declared.repair.Side.TheVariants.{Behind}
use Rattle.moves.specs.Moves.{may_go_behind, to_side}
use Rattle.moves.proofs.MovesByPlace.{next_up, up_ends}
use Rattle.moves.proofs.listed.push_behind.Goals as goal

pub returns-then-not-may_go_behind : goal.returns-then-not-may_go_behind
returns-then-not-may_go_behind c =
    let to = c.loop-to.to in
    let count = length c.args.code.now in
    let more : count - to ≡ count - (to + 1) + 1 = omega (arith, c.loop-to-test.true) in
    up_ends (to_side c.args.from Behind) (may_go_behind c.args.code.now c.args.store.now) to (count - to) (count - (to + 1)) c.loop-to.moves.items _ more
    (sym c.may_go_behind.ensures ∙ c.if-not-may_go_behind.true) c.loop-to.invariant

pub loop-to-preserved : goal.loop-to-preserved
loop-to-preserved c =
    let to = c.loop-to.to in
    let count = length c.args.code.now in
    let more : count - to ≡ count - (to + 1) + 1 = omega (arith, c.loop-to-test.true) in
    next_up (to_side c.args.from Behind) (may_go_behind c.args.code.now c.args.store.now) to (count - to) (count - (to + 1)) _ _ _ more
    (sym c.may_go_behind.ensures ∙ c.if-not-may_go_behind.false) c.loop-to.invariant c.in_ok-push.ensures.items
