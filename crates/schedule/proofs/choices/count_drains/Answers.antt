use Rattle.std.proofs.Common.{get_or, refl, arith}
use Rattle.schedule.proofs.MaskedSteps.{counted_more}
use Rattle.schedule.proofs.choices.count_drains.Goals as goal

pub loop-mask-preserved : goal.loop-mask-preserved
loop-mask-preserved c = record {
  value = counted_more c.args.masks.now c.loop-mask.mask-index (get_or c.args.masks.now c.loop-mask.mask-index 0) c.loop-mask.count c.count_in-count.result c.loop-mask-test.true refl c.loop-mask.invariant.value c.count_in-count.ensures.value;
  most = omega (arith, c.loop-mask.invariant.most, c.count_in-count.ensures.most);
}
