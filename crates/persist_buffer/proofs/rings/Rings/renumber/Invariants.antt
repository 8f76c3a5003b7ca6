use Rattle.std.proofs.Common.{◌-◌, ◌≡◌, ◌≤◌}
use Rattle.std.specs.Prelude.{count_by, nat_lt}
use Rattle.persist_buffer.specs.Rings.{entries}
use Rattle.persist_buffer.specs.Renumbering.{IsLeast}
use Rattle.persist_buffer.proofs.rings.Rings.renumber.Given as goal

abbrev pub invariant-loop-least : goal.invariant-loop-least
invariant-loop-least l = record {
  same : entries l.self.stamped ≡ entries l.fn.self.stamped;
  numbered : l.from ≤ count_by (λ s. nat_lt s.serial l.from) l.self.stamped;
  least : IsLeast l.self.stamped l.from l.least;
}

abbrev pub decreases-loop-least : goal.decreases-loop-least
decreases-loop-least l = 9223372036854775808 - l.from
