use Rattle.std.proofs.Common.{◌≡◌}
use Rattle.pending_images.specs.LeastCuts.{fits_below}
use Rattle.pending_images.proofs.fits.fits_by_line.Given as goal

abbrev pub invariant-loop-number : goal.invariant-loop-number
invariant-loop-number l = l.all.items ≡ fits_below l.pending.shape l.wanted l.now l.pending.memory.pending l.number
