use Rattle.std.proofs.Common.{◌≡◌, drop}
use Rattle.explore.specs.Followed.{first_from, first_own}
use Rattle.explore.proofs.own.first_own.Given as goal

abbrev pub invariant-loop-p : goal.invariant-loop-p
invariant-loop-p l = first_from l.locals l.here l.p (drop l.p l.here.processors) ≡ first_own l.locals l.here
