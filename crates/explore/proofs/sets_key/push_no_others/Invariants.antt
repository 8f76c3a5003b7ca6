use Rattle.std.proofs.Common.{◌≡◌, ◌++◌, drop}
use Rattle.explore.specs.Codes.{coded}
use Rattle.explore.specs.Keys.{none_key}
use Rattle.explore.proofs.sets_key.push_no_others.Given as goal

abbrev pub invariant-loop-line : goal.invariant-loop-line
invariant-loop-line l = l.bytes.items ++ coded (none_key (drop l._line l.shape)) ≡ l.fn.bytes.items ++ coded (none_key l.shape)
