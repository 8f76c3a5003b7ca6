use Rattle.std.proofs.Common.{◌≡◌, Some}
use Rattle.pending_images.specs.Candidates.{before, low}
use Rattle.pending_images.specs.LeastCuts.{counts_below}
use Rattle.pending_images.proofs.first_cut.least_counts.Given as goal

abbrev pub invariant-loop-number : goal.invariant-loop-number
invariant-loop-number l = counts_below l.fits (λ line. low line l.gone.markers l.gone.pending.memory.pending) (λ line. before line l.gone.markers l.gone.pending.memory.pending) l.number ≡ Some l.counts
