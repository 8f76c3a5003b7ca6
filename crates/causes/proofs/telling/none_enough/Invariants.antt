use Rattle.std.proofs.Common.{◌≡◌, ◌++◌, drop, map}
use Rattle.causes.specs.Enough.{AreRight}
use Rattle.causes.proofs.telling.none_enough.Given as goal

abbrev pub invariant-loop-write : goal.invariant-loop-write
invariant-loop-write l =
    (map (λ t. t.write) l.told.items ++ drop l.write-index l.missing ≡ l.missing)
    × AreRight (λ write. ⊥) l.missing l.told.items
