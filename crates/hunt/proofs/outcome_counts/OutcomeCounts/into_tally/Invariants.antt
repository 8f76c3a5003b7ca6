use Rattle.std.proofs.Common.{◌≡◌, ◌++◌}
use Rattle.hunt.proofs.outcome_counts.OutcomeCounts.into_tally.Given as goal

abbrev pub invariant-loop-entry : goal.invariant-loop-entry
invariant-loop-entry l = l.entries.items ++ l.entry-iterator ≡ l.fn.self
