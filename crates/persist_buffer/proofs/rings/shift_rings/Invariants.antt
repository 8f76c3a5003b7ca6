use Rattle.std.proofs.Common.{◌≡◌, ◌++◌, length, map, take, drop}
use Rattle.persist_buffer.specs.Renumbering.{shifted_ring}
use Rattle.persist_buffer.proofs.rings.shift_rings.Given as goal

abbrev pub invariant-loop-r : goal.invariant-loop-r
invariant-loop-r l = record {
  ends : l.r-end ≡ length l.fn.rings.items;
  items : l.rings.items ≡ map (shifted_ring l.from l.gap) (take l.r l.fn.rings.items) ++ drop l.r l.fn.rings.items;
}
