use Rattle.std.proofs.Common.{◌∙◌, ◌<◌, arith}
use Rattle.pending_images.specs.Candidates.{before}
use Rattle.pending_images.proofs.FormingImages.{one_made}
use Rattle.pending_images.proofs.formed.settle.Goals as goal

pub placed_write-place-requires : goal.placed_write-place-requires
placed_write-place-requires c =
    omega (arith, c.before-i-end.ensures, c.loop-i-test.true)

pub loop-i-preserved : goal.loop-i-preserved
loop-i-preserved c =
    let inside : c.loop-i.i < before c.args.line c.args.gone.now.markers c.args.gone.now.pending.memory.pending = omega (arith, c.before-i-end.ensures, c.loop-i-test.true) in record {
      image = c.write.ensures ∙ one_made c.args.gone.now.pending.shape c.args.line c.args.gone.now.markers c.loop-i.i c.args.gone.now.pending.memory.pending c.placed_write-place.result c.args.image.now c.loop-i.image c.loop-i.invariant.from inside c.placed_write-place.ensures c.loop-i.invariant.image;
      from = omega (arith, c.loop-i.invariant.from);
    }
