use Rattle.std.proofs.Common.{◌≡◌, ◌≤◌, true, ℕ}
use Rattle.std.specs.List.{All}
use Rattle.choices.specs.Choices.{is_within}
use Rattle.mends.specs.Searches.{IsBound}
use Rattle.mends.proofs.bound.bound_from.Given as goal

abbrev pub invariant-loop : goal.invariant-loop
invariant-loop l = record {
  broken : IsBound l.task.question.now l.task.object.now l.bound.items;
  within : is_within l.choice l.bound.items ≡ true;
  ranges : All (λ (range : ℕ × ℕ). (range.0 ≤ range.1) × (range.1 ≤ l.count)) l.ranges.items;
}
