use Rattle.std.proofs.Common.{◌-◌, ◌≤◌, length}
use Rattle.std.specs.Prelude.{count_by, nat_lt}
use Rattle.persist_buffer.proofs.ring.count_below.Given as goal

abbrev pub invariant-loop-low : goal.invariant-loop-low
invariant-loop-low l = record {
  least : l.low ≤ count_by (λ s. nat_lt s.serial l.serial) l.ring.items;
  most : count_by (λ s. nat_lt s.serial l.serial) l.ring.items ≤ l.high;
  within : l.high ≤ length l.ring.items;
}

abbrev pub decreases-loop-low : goal.decreases-loop-low
decreases-loop-low l = l.high - l.low
