use Rattle.std.proofs.Common.{◌≡◌, ◌++◌, drop}
use Rattle.jobs.specs.ImageReports.{failing_from}
use Rattle.jobs.proofs.listing.failing_places.Given as goal

abbrev pub invariant-loop-place : goal.invariant-loop-place
invariant-loop-place l =
    l.places.items ++ failing_from l.view l.cond l.place (drop l.place l.images) ≡ failing_from l.view l.cond 0 l.images
