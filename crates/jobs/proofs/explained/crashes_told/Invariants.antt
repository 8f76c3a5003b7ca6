use Rattle.std.proofs.Common.{◌≡◌, ◌++◌, drop, map}
use Rattle.std.specs.Prelude.{All}
use Rattle.jobs.specs.Explained.{IsCrashTold}
use Rattle.jobs.proofs.explained.crashes_told.Given as goal

abbrev pub invariant-loop-place : goal.invariant-loop-place
invariant-loop-place g l =
    (map (λ crash. crash.place) l.told.items ++ drop l.place-index l.places ≡ l.places)
    × All (IsCrashTold l.states l.start l.failure) l.told.items
