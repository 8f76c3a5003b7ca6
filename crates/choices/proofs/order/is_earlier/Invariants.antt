use Rattle.std.proofs.Common.{◌≡◌, drop}
use Rattle.choices.specs.Choices.{is_earlier}
use Rattle.choices.proofs.order.is_earlier.Given as goal

abbrev pub invariant-loop-place : goal.invariant-loop-place
invariant-loop-place l = is_earlier (drop l.place l.choice) (drop l.place l.other) ≡ is_earlier l.choice l.other
