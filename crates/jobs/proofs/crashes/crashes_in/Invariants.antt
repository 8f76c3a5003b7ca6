use Rattle.std.proofs.Common.{◌≡◌, ◌++◌, drop}
use Rattle.jobs.specs.Crashes.{crashes_from}
use Rattle.jobs.proofs.crashes.crashes_in.Given as goal

abbrev pub invariant-loop-place : goal.invariant-loop-place
invariant-loop-place l = l.places.items ++ crashes_from l.place (drop l.place l.steps) ≡ crashes_from 0 l.steps
