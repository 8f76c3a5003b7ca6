use Rattle.std.proofs.Common.{◌≡◌, ◌++◌, drop, map}
use Rattle.explore.specs.Falls.{step_for}
use Rattle.explore.proofs.ends.settle_steps.Given as goal

abbrev pub invariant-loop-entry : goal.invariant-loop-entry
invariant-loop-entry l = l.steps.items ++ map step_for (drop l.entry-index l.entry-items) ≡ map step_for l.view.memory.pending
