use Rattle.std.proofs.Common.{◌≡◌, ◌+◌, ◌*◌, ◌≤◌, drop}
use Rattle.choices.specs.Choices.{cost_of}
use Rattle.choices.proofs.order.cost_of.Given as goal

abbrev pub invariant-loop-place : goal.invariant-loop-place
invariant-loop-place l = record {
  rest : l.total + cost_of (drop l.place l.costs) (drop l.place l.choice) ≡ cost_of l.costs l.choice;
  small : l.total ≤ 255 * l.place;
}
