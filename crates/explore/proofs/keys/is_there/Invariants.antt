use Rattle.std.proofs.Common.{◌≡◌, ◌≤◌, ℕ, List, length}
use Rattle.std.specs.Prelude.{Some, slice_get}
use Rattle.explore.specs.KeyTables.{IsOn, parts}
use Rattle.explore.proofs.keys.is_there.Given as goal

abbrev pub invariant-loop-at : goal.invariant-loop-at
invariant-loop-at l = record {
  within : l.at ≤ length l.ends;
  on : (i : ℕ) → slice_get (parts 0 l.ends l.bytes) i ≡ Some l.key → IsOn l.before i l.at;
}

abbrev pub decreases-loop-at : goal.decreases-loop-at
decreases-loop-at l = l.at
