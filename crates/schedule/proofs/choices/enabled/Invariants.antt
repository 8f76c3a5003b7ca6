use Rattle.std.proofs.Common.{◌≡◌, take}
use Rattle.schedule.proofs.choices.enabled.Given as goal

abbrev pub invariant-loop-n : goal.invariant-loop-n
invariant-loop-n l = l.steps.items ≡ take l.n l.choices
