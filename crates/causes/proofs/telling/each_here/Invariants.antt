use Rattle.std.proofs.Common.{◌≡◌, ◌++◌, drop, map}
use Rattle.causes.specs.Enough.{AreRight, IsEnoughHere}
use Rattle.causes.proofs.telling.each_here.Given as goal

abbrev pub invariant-loop-place : goal.invariant-loop-place
invariant-loop-place l =
    (map (λ t. t.write) l.told.items ++ drop l.place l.missing ≡ l.missing)
    × AreRight (IsEnoughHere l.question l.machine) l.missing l.told.items
