use Rattle.std.proofs.Common.{◌≡◌, ◌++◌, drop}
use Rattle.explore.specs.Outcomes.{processors_outcome}
use Rattle.explore.proofs.ends.push_processors.Given as goal

abbrev pub invariant-loop-p : goal.invariant-loop-p
invariant-loop-p l = l.values.items ++ processors_outcome (drop l.p l.view.processors) ≡ l.fn.values.items ++ processors_outcome l.view.processors
