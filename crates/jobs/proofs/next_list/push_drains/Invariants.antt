use Rattle.std.proofs.Common.{◌≡◌, ◌++◌, drop}
use Rattle.schedule.specs.Enabled.{drains, drains_from}
use Rattle.jobs.proofs.next_list.push_drains.Given as goal

abbrev pub invariant-loop-p : goal.invariant-loop-p
invariant-loop-p l = l.steps.items ++ drains_from l.p (drop l.p l.view.processors) ≡ l.fn.steps.items ++ drains l.view
