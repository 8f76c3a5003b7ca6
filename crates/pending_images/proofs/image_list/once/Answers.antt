use Rattle.pending_images.proofs.SortedImagesOnce.{once_has, once_is, once_rises}
use Rattle.pending_images.proofs.image_list.once.Goals as goal

pub returns-clause-same : goal.returns-clause-same
returns-clause-same c = λ image. once_has _ _ _ c.sort_unstable.ensures.permutation c.dedup.ensures.filtered image

pub returns-clause-ascending : goal.returns-clause-ascending
returns-clause-ascending c = once_rises _ _ c.sort_unstable.ensures.sorted c.dedup.ensures.filtered

pub returns-clause-value : goal.returns-clause-value
returns-clause-value c = once_is _ _ _ c.sort_unstable.ensures.permutation c.sort_unstable.ensures.sorted c.dedup.ensures.filtered
