use Rattle.std.proofs.Common.{◌≡◌, drop}
use Rattle.choices.specs.Choices.{is_within}
use Rattle.choices.proofs.flags.is_within.Given as goal

abbrev pub invariant-loop-place : goal.invariant-loop-place
invariant-loop-place l = is_within (drop l.place l.less) (drop l.place l.more) ≡ is_within l.less l.more
