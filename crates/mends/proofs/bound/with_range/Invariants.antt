use Rattle.std.proofs.Common.{◌≡◌, true, length}
use Rattle.choices.specs.Choices.{is_within}
use Rattle.mends.proofs.bound.with_range.Given as goal

abbrev pub invariant-loop-place : goal.invariant-loop-place
invariant-loop-place l = record {
  length : length l.more.items ≡ length l.choice;
  within : is_within l.choice l.more.items ≡ true;
}
