use Rattle.std.proofs.Common.{◌≤◌, ◌-◌}
use Rattle.hunt.proofs.runs.all_of.Given as goal

abbrev pub invariant-loop-done : goal.invariant-loop-done
invariant-loop-done g l = record {
  answer : g.C.Counting.IsAnswer l.count l.range.first l.done l.all;
  within : l.done ≤ l.range.n;
}

abbrev pub decreases-loop-done : goal.decreases-loop-done
decreases-loop-done g l = l.range.n - l.done
