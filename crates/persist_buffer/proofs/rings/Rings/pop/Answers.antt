use Rattle.std.proofs.Common.{◌<◌, length, refl, arith}
use Rattle.persist_buffer.proofs.EmptyFrom.{empty_popped}
use Rattle.persist_buffer.proofs.RingEdits.{again, popped_front}
use Rattle.persist_buffer.proofs.rings.Rings.pop.Goals as goal

pub invariant_of-self : goal.invariant_of-self
invariant_of-self c =
    let some = rw (← c.self.view_is) at c.requires.there in
    let count = c.self.invariant.0.count in
    let inside : c.args.r < length c.self.inside.rings.items = omega (arith, count, c.requires.ring) in (
      again _ _ _ (popped_front _ _ _ c.args.r _ _ c.self.invariant.0 c.requires.ring some c.index_mut-ring.ensures.value c.pop_front.ensures.items),
      empty_popped c.self.inside.used c.self.inside.rings.items c.args.r _ _ inside c.index_mut-ring.ensures.value c.pop_front.ensures.items c.self.invariant.1,
    )

pub returns : goal.returns
returns c =
    let some = rw (← c.self.view_is) at c.requires.there in
    let left = popped_front _ _ _ c.args.r _ _ c.self.invariant.0 c.requires.ring some c.index_mut-ring.ensures.value c.pop_front.ensures.items in
    rw (← c.self.view_is, left.merges) refl
