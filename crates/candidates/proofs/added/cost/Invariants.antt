use Rattle.std.proofs.Common.{◌≡◌, ◌+◌, ◌*◌, ◌≤◌, drop}
use Rattle.candidates.specs.Sets.{cost}
use Rattle.candidates.proofs.added.cost.Given as goal

abbrev pub invariant-loop-repair : goal.invariant-loop-repair
invariant-loop-repair l = record {
  rest : l.total + cost (drop l.repair-index l.set) ≡ cost l.set;
  small : l.total ≤ 2 * l.repair-index;
}
