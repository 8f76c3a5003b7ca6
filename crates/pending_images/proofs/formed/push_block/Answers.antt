use Rattle.std.proofs.Common.{arith}
use Rattle.pending_images.proofs.FormingImages.{copied}
use Rattle.pending_images.proofs.formed.push_block.Goals as goal

pub loop-i-preserved : goal.loop-i-preserved
loop-i-preserved c =
    copied c.args.images.now.items c.loop-i.images.items _ c.args.from c.loop-i.i c.args.place c.args.value _ _ _ (omega arith) (omega arith) c.loop-i.invariant c.index.ensures c.in_ok-image.ensures c.in_ok-push.ensures.items
