use Rattle.pending_images.proofs.ListedValues.{once_has, once_rises}
use Rattle.pending_images.proofs.values.once.Goals as goal

pub returns-clause-same : goal.returns-clause-same
returns-clause-same c = λ value. once_has _ _ _ c.sort_unstable.ensures.permutation c.dedup.ensures.filtered value

pub returns-clause-ascending : goal.returns-clause-ascending
returns-clause-ascending c = once_rises _ _ c.sort_unstable.ensures.sorted c.dedup.ensures.filtered
