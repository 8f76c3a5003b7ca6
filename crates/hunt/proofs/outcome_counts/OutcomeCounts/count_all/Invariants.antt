use Rattle.std.proofs.Common.{◌≡◌, ◌+◌, ◌≤◌, length}
use Rattle.std.specs.Prelude.{fold}
use Rattle.hunt.specs.Tallies.{counted, total_of}
use Rattle.schedule.specs.Ranges.{max_schedules}
use Rattle.hunt.proofs.outcome_counts.OutcomeCounts.count_all.Given as goal

abbrev pub invariant-loop-outcome : goal.invariant-loop-outcome
invariant-loop-outcome l = record {
  counts : fold counted l.self l.outcome-iterator.rest.items ≡ fold counted l.fn.self l.fn.outcomes.items;
  few : total_of l.self + length l.outcome-iterator.rest.items ≤ max_schedules;
}
