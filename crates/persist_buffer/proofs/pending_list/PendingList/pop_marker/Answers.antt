use Rattle.std.proofs.Common.{length, ap, arith}
use Rattle.persist_buffer.specs.Memories.{is_marker}
use Rattle.persist_buffer.specs.Rings.{is_in}
use Rattle.persist_buffer.proofs.LengthsOfStampedLists.{one_dropped}
use Rattle.persist_buffer.proofs.RingKinds.{marker_kind, kind_there, kind_dropped}
use Rattle.persist_buffer.proofs.pending_list.PendingList.pop_marker.Goals as goal

pub pop-requires-clause-there : goal.pop-requires-clause-there
pop-requires-clause-there c = kind_there _ _ c.self.view_is 0 is_marker marker_kind c.requires

pub invariant_of-self : goal.invariant_of-self
invariant_of-self c =
    let there = kind_there _ _ c.self.view_is 0 is_marker marker_kind c.requires in
    let one = one_dropped (is_in 0) c.self.inside.rings.stamped there in
    let left = ap (λ l. length l.stamped) c.pop.ensures in
    omega (arith, one, left, c.self.invariant)

pub returns : goal.returns
returns c = rw c.pop.ensures (kind_dropped _ _ c.self.view_is 0 is_marker marker_kind)
