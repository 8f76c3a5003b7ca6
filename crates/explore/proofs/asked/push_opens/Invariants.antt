use Rattle.std.proofs.Common.{◌≡◌, ◌++◌}
use Rattle.explore.specs.Asked.{asked_by}
use Rattle.explore.specs.Narrow.{opens}
use Rattle.explore.proofs.asked.push_opens.Given as goal

abbrev pub invariant-loop-number : goal.invariant-loop-number
invariant-loop-number l = record {
  pending : l.narrow.memory.pending ≡ l.fn.narrow.memory.pending ++ opens (asked_by l.cond) l.number l.k l.pending.memory.pending;
  persisted : l.narrow.memory.persisted ≡ l.fn.narrow.memory.persisted;
  shape : l.narrow.shape ≡ l.fn.narrow.shape;
}
