use Rattle.std.proofs.Common.{◌≡◌, ◌<◌, ◌≤◌, ◌+◌, length, refl, arith}
use Rattle.persist_buffer.proofs.EmptyFrom.{empty_set}
use Rattle.persist_buffer.proofs.RingEdits.{again, pushed_back, has_room}
use Rattle.persist_buffer.proofs.rings.Rings.push.Goals as goal

pub append-requires : goal.append-requires
append-requires c =
    let few = rw (← c.ring_of-r.ensures.value, ← c.self.view_is) at c.requires.room in
    has_room _ _ _ c.ring_of-r.result _ c.self.invariant.0 c.ring_of-r.ensures.within c.index_mut-ring.ensures.value few

pub invariant_of-self : goal.invariant_of-self
invariant_of-self c =
    let small = rw (← c.self.view_is) at c.requires.serial in
    let few = rw (← c.ring_of-r.ensures.value, ← c.self.view_is) at c.requires.room in
    let count = c.self.invariant.0.count in
    let inside : c.ring_of-r.result + 1 ≤ length c.self.inside.rings.items = omega (arith, count, c.ring_of-r.ensures.within) in
    let within : c.most-self-inside.result ≤ length c.self.inside.rings.items = c.most-self-inside.ensures.bound (length c.self.inside.rings.items) c.self.invariant.1.within inside in
    let used : c.self.inside.used ≤ c.most-self-inside.result = c.most-self-inside.ensures.first in
    let last : c.ring_of-r.result < c.most-self-inside.result = omega (arith, c.most-self-inside.ensures.second) in (
      again _ _ _ (pushed_back _ _ _ c.ring_of-r.result _ _ _ c.self.invariant.0 c.ring_of-r.ensures.within c.ring_of-r.ensures.value small few c.index_mut-ring.ensures.value c.append.ensures),
      empty_set c.self.inside.used c.most-self-inside.result c.self.inside.rings.items c.ring_of-r.result _ used last within c.self.invariant.1,
    )

pub returns : goal.returns
returns c =
    let small = rw (← c.self.view_is) at c.requires.serial in
    let few = rw (← c.ring_of-r.ensures.value, ← c.self.view_is) at c.requires.room in
    let grown = pushed_back _ _ _ c.ring_of-r.result _ _ _ c.self.invariant.0 c.ring_of-r.ensures.within c.ring_of-r.ensures.value small few c.index_mut-ring.ensures.value c.append.ensures in
    rw (← c.self.view_is, grown.merges) refl
