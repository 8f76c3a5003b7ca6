use Rattle.std.proofs.Common.{length, ◌-◌, ◌≡◌, ◌≤◌}
use Rattle.persist_buffer.proofs.Merging.{Merging}
use Rattle.persist_buffer.proofs.ring.merge.Given as goal

abbrev pub invariant-loop-next : goal.invariant-loop-next
invariant-loop-next l = record {
  within : l.next ≤ length l.list;
  ends : l.i-end ≡ length l.ring.items;
  merging : Merging l.all.items l.list l.next l.ring.items l.i;
}

abbrev pub decreases-loop-next : goal.decreases-loop-next
decreases-loop-next l = length l.list - l.next

abbrev pub invariant-loop-i : goal.invariant-loop-i
invariant-loop-i l = record {
  within : l.next ≤ length l.list;
  ends : l.i-end ≡ length l.ring.items;
  merging : Merging l.all.items l.list l.next l.ring.items l.i;
}
