use Rattle.std.proofs.Common.{◌≡◌, ◌≤◌, ◌-◌, take}
use Rattle.pending_images.specs.Candidates.{low}
use Rattle.pending_images.specs.Products.{made, open_at}
use Rattle.pending_images.proofs.formed.settle.Given as goal

abbrev pub invariant-loop-i : goal.invariant-loop-i
invariant-loop-i l = record {
  image : l.image ≡ made (take (l.i - low l.line l.gone.markers l.gone.pending.memory.pending) (open_at l.gone.pending.shape l.line l.gone.markers l.gone.pending.memory.pending)) l.fn.image;
  from : low l.line l.gone.markers l.gone.pending.memory.pending ≤ l.i;
}
