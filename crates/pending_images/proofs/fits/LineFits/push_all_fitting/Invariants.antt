use Rattle.std.proofs.Common.{◌≡◌, ◌+◌, ◌-◌, ◌++◌}
use Rattle.pending_images.specs.Agreements.{picked}
use Rattle.pending_images.proofs.fits.LineFits.push_all_fitting.Given as goal

abbrev pub invariant-loop-n : goal.invariant-loop-n
invariant-loop-n l = l.values.items ++ picked l.self l.column l.n (l.to + 1 - l.n) ≡ l.fn.values.items ++ picked l.self l.column l.from (l.to - l.from + 1)
