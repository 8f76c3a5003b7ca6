use Rattle.std.proofs.Common.{◌≡◌, ◌≤◌, Some, drop, length}
use Rattle.candidates.specs.Sets.{with_all}
use Rattle.candidates.proofs.added.with_all.Given as goal

abbrev pub decreases-loop-left : goal.decreases-loop-left
decreases-loop-left l = l.left

abbrev pub invariant-loop-left : goal.invariant-loop-left
invariant-loop-left l = record {
  within : l.left ≤ length l.set;
  rest : with_all (drop l.left l.set) l.object ≡ Some l.changed;
}
