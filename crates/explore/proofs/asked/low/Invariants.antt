use Rattle.std.proofs.Common.{◌≡◌, ◌-◌}
use Rattle.pending_images.specs.Candidates.{low}
use Rattle.explore.proofs.asked.low.Given as goal

abbrev pub invariant-loop-j : goal.invariant-loop-j
invariant-loop-j l = low l.line (l.k - l.j) l.pending.memory.pending ≡ low l.line l.k l.pending.memory.pending
