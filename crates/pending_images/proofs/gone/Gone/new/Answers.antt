use Rattle.pending_images.proofs.SumsOfProducts.{none_low}
use Rattle.pending_images.proofs.gone.Gone.new.Goals as goal

pub invariant_of-result : goal.invariant_of-result
invariant_of-result c = none_low c.args.pending.now.memory.pending
