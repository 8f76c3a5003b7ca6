use Rattle.std.proofs.Common.{◌≡◌}
use Rattle.explore.specs.Narrow.{IsLeastCount, line_values}
use Rattle.explore.proofs.asked.least_count.Given as goal

abbrev pub invariant-loop-count : goal.invariant-loop-count
invariant-loop-count l = record {
  least : IsLeastCount l.pending.memory l.line l.least l.count l.first;
  values : l.values.items ≡ line_values l.pending.memory l.line l.first;
}
