use Rattle.std.proofs.Common.{◌≡◌, ◌++◌, drop, map}
use Rattle.causes.specs.Enough.{AreRight, IsEnoughBehind}
use Rattle.causes.proofs.telling.each_behind.Given as goal

abbrev pub invariant-loop-place : goal.invariant-loop-place
invariant-loop-place g l =
    (map (λ t. t.write) l.told.items ++ drop l.place l.missing ≡ l.missing)
    × AreRight (IsEnoughBehind l.question l.limit l.machine) l.missing l.told.items
