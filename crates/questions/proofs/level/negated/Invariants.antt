use Rattle.std.proofs.Common.{◌≡◌}
use Rattle.conditions.specs.Reading.{negated}
use Rattle.questions.proofs.level.negated.Given as goal

abbrev pub invariant-loop-done : goal.invariant-loop-done
invariant-loop-done l = l.wrapped ≡ negated l.done l.fn.cond
