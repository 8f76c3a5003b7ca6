use Rattle.std.proofs.Common.{◌≡◌, ◌++◌, length, map, take, drop, ◌≤◌}
use Rattle.persist_buffer.specs.Renumbering.{shifted}
use Rattle.persist_buffer.proofs.ring.shift.Given as goal

abbrev pub invariant-loop : goal.invariant-loop
invariant-loop l = record {
  fits : length l.fn.ring.items ≤ l.fn.ring.capacity;
  ends : l.end ≡ length l.fn.ring.items;
  capacity : l.ring.capacity ≡ l.fn.ring.capacity;
  items : l.ring.items ≡ drop l.counter l.fn.ring.items ++ map (shifted l.from l.gap) (take l.counter l.fn.ring.items);
}
