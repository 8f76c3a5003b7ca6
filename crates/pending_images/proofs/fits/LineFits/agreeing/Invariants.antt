use Rattle.std.proofs.Common.{◌≡◌, ◌++◌, drop}
use Rattle.persist_buffer.specs.Listings.{writes_on}
use Rattle.pending_images.specs.Agreements.{agree_later, agree_of, line_now}
use Rattle.pending_images.proofs.fits.LineFits.agreeing.Given as goal

abbrev pub invariant-loop-i : goal.invariant-loop-i
invariant-loop-i l =
    l.fits.items ++ agree_later l.line l.given l.values (drop l.i (writes_on l.line l.pending.memory.pending))
    ≡ agree_of l.line l.given (line_now l.pending.memory.persisted l.line) l.pending.memory.pending
