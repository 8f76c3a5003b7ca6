use Rattle.std.proofs.Common.{length, ap, arith}
use Rattle.persist_buffer.specs.Memories.{is_write_on}
use Rattle.persist_buffer.specs.Rings.{is_in}
use Rattle.persist_buffer.proofs.LengthsOfStampedLists.{one_dropped}
use Rattle.persist_buffer.proofs.RingKinds.{line_kind, kind_there, kind_dropped}
use Rattle.persist_buffer.proofs.pending_list.PendingList.pop_write.Goals as goal

pub pop-requires-clause-there : goal.pop-requires-clause-there
pop-requires-clause-there c = kind_there _ _ c.self.view_is _ (is_write_on c.args.line) (line_kind _ c.args.line c.ring_of_line.ensures.value) c.requires

pub invariant_of-self : goal.invariant_of-self
invariant_of-self c =
    let there = kind_there _ _ c.self.view_is _ (is_write_on c.args.line) (line_kind _ c.args.line c.ring_of_line.ensures.value) c.requires in
    let one = one_dropped (is_in c.ring_of_line.result) c.self.inside.rings.stamped there in
    let left = ap (λ l. length l.stamped) c.pop.ensures in
    omega (arith, one, left, c.self.invariant)

pub returns : goal.returns
returns c = rw c.pop.ensures (kind_dropped _ _ c.self.view_is _ (is_write_on c.args.line) (line_kind _ c.args.line c.ring_of_line.ensures.value))
