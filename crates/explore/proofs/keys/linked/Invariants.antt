use Rattle.std.proofs.Common.{◌≡◌, length}
use Rattle.explore.specs.KeyTables.{AreLinked, parts}
use Rattle.explore.proofs.keys.linked.Given as goal

abbrev pub invariant-loop-i : goal.invariant-loop-i
invariant-loop-i l = record {
  chains : length l.last.items ≡ l.count;
  linked : AreLinked l.i (parts 0 l.ends l.bytes) l.last.items l.before.items;
}
