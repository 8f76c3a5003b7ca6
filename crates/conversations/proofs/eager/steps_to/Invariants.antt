use Rattle.std.proofs.Common.{◌≡◌, ◌++◌}
use Rattle.conversations.specs.Eager.{is_met, steps_to}
use Rattle.conversations.proofs.eager.steps_to.Given as goal

abbrev pub invariant-loop-left : goal.invariant-loop-left
invariant-loop-left l = l.steps.items ++ steps_to (is_met l.aim) l.left l.own ≡ steps_to (is_met l.aim) l.count l.machine

abbrev pub decreases-loop-left : goal.decreases-loop-left
decreases-loop-left l = l.left
