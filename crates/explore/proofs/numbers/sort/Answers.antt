use Rattle.pending_images.proofs.SortedImagesOnce.{once_is}
use Rattle.explore.proofs.numbers.sort.Goals as goal

pub returns : goal.returns
returns c = once_is _ _ _ c.sort_unstable.ensures.permutation c.sort_unstable.ensures.sorted c.dedup.ensures.filtered
