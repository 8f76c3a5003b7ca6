use Rattle.std.proofs.Common.{◌≡◌, ◌≤◌, ◌-◌, ◌++◌, take, drop}
use Rattle.pending_images.specs.Candidates.{low}
use Rattle.pending_images.specs.Products.{blocks, open_at}
use Rattle.pending_images.proofs.formed.spread.Given as goal

abbrev pub invariant-loop-i : goal.invariant-loop-i
invariant-loop-i l = record {
  images : l.images.items ≡ take l.start l.fn.images.items ++ blocks (open_at l.gone.pending.shape l.line l.gone.markers l.gone.pending.memory.pending) (l.i - low l.line l.gone.markers l.gone.pending.memory.pending) (drop l.start l.fn.images.items);
  from : low l.line l.gone.markers l.gone.pending.memory.pending ≤ l.i;
}
