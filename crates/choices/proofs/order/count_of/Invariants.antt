use Rattle.std.proofs.Common.{◌≡◌, ◌+◌, ◌≤◌, drop}
use Rattle.choices.specs.Choices.{count_of}
use Rattle.choices.proofs.order.count_of.Given as goal

abbrev pub invariant-loop-place : goal.invariant-loop-place
invariant-loop-place l = record {
  rest : l.count + count_of (drop l.place l.costs) (drop l.place l.choice) ≡ count_of l.costs l.choice;
  small : l.count ≤ l.place;
}
