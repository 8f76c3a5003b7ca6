use Rattle.std.proofs.Common.{◌≡◌, ◌-◌, drop}
use Rattle.persist_buffer.specs.Listings.{writes_on}
use Rattle.explore.specs.LineSets.{held_through}
use Rattle.explore.proofs.line_sets.Held.pass_all.Given as goal

abbrev pub invariant-loop-i : goal.invariant-loop-i
invariant-loop-i l =
    held_through (l.settled - l.i) l.self (drop l.i (writes_on l.line l.pending.memory.pending)) ≡ held_through l.settled l.fn.self (writes_on l.line l.pending.memory.pending)
