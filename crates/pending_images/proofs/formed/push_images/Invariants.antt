use Rattle.std.proofs.Common.{◌≡◌, ◌++◌}
use Rattle.pending_images.specs.Products.{images_at}
use Rattle.pending_images.proofs.formed.push_images.Given as goal

abbrev pub invariant-loop-number : goal.invariant-loop-number
invariant-loop-number l = l.images.items ≡ l.fn.images.items ++ images_at l.gone.pending.shape l.number l.gone.markers l.gone.pending.memory.pending l.settled
