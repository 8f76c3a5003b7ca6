use Rattle.std.proofs.Common.{◌∙◌}
use Rattle.pending_images.proofs.LeastSetsAreFound.{pending_fits}
use Rattle.pending_images.proofs.least_set.found.Goals as goal

pub first_cut-requires : goal.first_cut-requires
first_cut-requires c =
    pending_fits c.args.pending.now.shape c.values-wanted.result.now c.values-now.result.now c.args.pending.now.memory.pending c.deref.result.now (c.deref.ensures.value ∙ c.in_ok-fits.ensures)
