use Rattle.std.proofs.Common.{◌≡◌, ◌-◌, drop}
use Rattle.pending_images.specs.LeastCuts.{part_of}
use Rattle.pending_images.proofs.fits.part_of.Given as goal

abbrev pub invariant-loop-number : goal.invariant-loop-number
invariant-loop-number l = part_of (drop l.number l.shape) l.rest (l.line - l.number) ≡ part_of l.shape l.values l.line
