use Rattle.std.proofs.Common.{◌≡◌, ◌+◌, ◌-◌}
use Rattle.pending_images.specs.LeastCuts.{first_true}
use Rattle.pending_images.proofs.fits.LineFits.first.Given as goal

abbrev pub invariant-loop-n : goal.invariant-loop-n
invariant-loop-n l = first_true l.self l.least (l.most - l.least + 1) ≡ first_true l.self l.n (l.most + 1 - l.n)
