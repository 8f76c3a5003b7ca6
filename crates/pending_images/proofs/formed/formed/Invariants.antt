use Rattle.std.proofs.Common.{◌≡◌, ◌+◌}
use Rattle.pending_images.specs.Images.{image_at}
use Rattle.pending_images.specs.Products.{images_below, settled_image}
use Rattle.pending_images.proofs.formed.formed.Given as goal

abbrev pub invariant-loop-k : goal.invariant-loop-k
invariant-loop-k l = record {
  gone : l.gone ≡ record { pending = l.pending; markers = l.k };
  images : l.images.items ≡ images_below l.pending.shape (l.k + 1) l.pending.memory.pending (image_at l.pending.shape l.pending.memory.persisted);
  settled : l.settled ≡ settled_image l.pending.shape l.k l.pending.memory.pending (image_at l.pending.shape l.pending.memory.persisted);
}
