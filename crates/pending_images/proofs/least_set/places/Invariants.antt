use Rattle.std.proofs.Common.{◌≡◌, ◌++◌, drop}
use Rattle.pending_images.specs.LeastCuts.{cut_flags}
use Rattle.pending_images.specs.LeastSets.{places_from}
use Rattle.pending_images.proofs.least_set.places.Given as goal

abbrev pub invariant-loop-place : goal.invariant-loop-place
invariant-loop-place l = l.places.items ++ places_from l.place (cut_flags l.markers l.counts (drop l.place l.pending)) ≡ places_from 0 (cut_flags l.cut.markers l.cut.counts l.pending)
