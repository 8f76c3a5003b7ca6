use Rattle.std.proofs.Common.{◌≡◌, ◌≤◌, ◌++◌, slice_range}
use Rattle.persist_buffer.specs.Listings.{writes_on}
use Rattle.explore.proofs.asked.push_writes.Given as goal

abbrev pub invariant-loop-i : goal.invariant-loop-i
invariant-loop-i l = record {
  pending : l.narrow.memory.pending ≡ l.fn.narrow.memory.pending ++ slice_range (writes_on l.line l.pending.memory.pending) l.from l.i;
  persisted : l.narrow.memory.persisted ≡ l.fn.narrow.memory.persisted;
  shape : l.narrow.shape ≡ l.fn.narrow.shape;
  from : l.from ≤ l.i;
}
