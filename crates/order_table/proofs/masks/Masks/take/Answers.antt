use Rattle.std.proofs.Common.{◌<◌, arith}
use Rattle.order_table.proofs.DecodedOperations.{counted}
use Rattle.order_table.proofs.MasksPushAndTake.{take_is, take_stands}
use Rattle.order_table.proofs.masks.Masks.take.Goals as goal

pub take_place-requires : goal.take_place-requires
take_place-requires c = let count = counted c.self.inside.kinds c.self.inside.lines c.self.inside.len c.args.self.now c.self.view_is in omega arith

pub take_place_in_use-self-inside-requires-clause-place : goal.take_place_in_use-self-inside-requires-clause-place
take_place_in_use-self-inside-requires-clause-place c = let count = counted c.self.inside.kinds c.self.inside.lines c.self.inside.len c.args.self.now c.self.view_is in omega arith

pub invariant_of-self : goal.invariant_of-self
invariant_of-self c =
    let count = counted c.self.inside.kinds c.self.inside.lines c.self.inside.len c.args.self.now c.self.view_is in
    let there : c.args.place < c.self.inside.len = omega arith in
    rw (c.take_place.ensures, c.take_place_in_use-self-inside.ensures.masks) (take_stands c.self.inside.kinds c.self.inside.lines c.self.inside.len c.self.invariant.0 c.self.told.0 c.self.told.1 c.args.place there, omega arith, rw c.take_place_in_use-self-inside.ensures.masks at c.take_place_in_use-self-inside.ensures.in_use)

pub returns : goal.returns
returns c =
    let count = counted c.self.inside.kinds c.self.inside.lines c.self.inside.len c.args.self.now c.self.view_is in
    let there : c.args.place < c.self.inside.len = omega arith in
    rw (c.take_place.ensures, c.take_place_in_use-self-inside.ensures.masks, ← c.self.view_is) (take_is c.self.inside.kinds c.self.inside.lines c.self.inside.len c.self.invariant.0 c.self.told.0 c.self.told.1 c.args.place there)
