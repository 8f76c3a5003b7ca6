use Rattle.std.proofs.Common.{◌≡◌, ◌++◌, drop}
use Rattle.explore.specs.Codes.{coded}
use Rattle.explore.specs.Keys.{joined}
use Rattle.explore.proofs.sets_key.push_lists.Given as goal

abbrev pub invariant-loop-list : goal.invariant-loop-list
invariant-loop-list l = l.bytes.items ++ coded (joined (drop l.list-index l.lists)) ≡ l.fn.bytes.items ++ coded (joined l.lists)
