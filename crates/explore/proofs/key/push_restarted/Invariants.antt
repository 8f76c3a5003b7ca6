use Rattle.std.proofs.Common.{◌≡◌, ◌++◌, drop, map}
use Rattle.machine.specs.Processors.{restart_of}
use Rattle.explore.specs.Codes.{coded}
use Rattle.explore.specs.Keys.{processors_key}
use Rattle.explore.proofs.key.push_restarted.Given as goal

abbrev pub invariant-loop-p : goal.invariant-loop-p
invariant-loop-p l = l.bytes.items ++ coded (processors_key (map restart_of (drop l._p l.view.processors))) ≡ l.fn.bytes.items ++ coded (processors_key (map restart_of l.view.processors))
