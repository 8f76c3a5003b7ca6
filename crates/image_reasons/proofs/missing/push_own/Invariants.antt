use Rattle.std.proofs.Common.{◌≡◌, ◌++◌, drop}
use Rattle.image_reasons.specs.Reasons.{missing_own}
use Rattle.image_reasons.proofs.missing.push_own.Given as goal

abbrev pub invariant-loop-delayed : goal.invariant-loop-delayed
invariant-loop-delayed l = l.missing.items ++ missing_own l.kept l.shape l.image (drop l.delayed-index l.own) ≡ l.fn.missing.items ++ missing_own l.kept l.shape l.image l.own
