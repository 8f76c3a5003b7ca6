use Rattle.std.proofs.Common.{◌≡◌, ◌++◌, drop}
use Rattle.persist_buffer.specs.Listings.{writes_on}
use Rattle.pending_images.specs.LeastCuts.{fits_later, fits_of}
use Rattle.pending_images.proofs.fits.LineFits.new.Given as goal

abbrev pub invariant-loop-i : goal.invariant-loop-i
invariant-loop-i l = l.fits.items ++ fits_later l.wanted l.values (drop l.i (writes_on l.line l.pending.memory.pending)) ≡ fits_of l.line l.wanted l.now l.pending.memory.pending
