use Rattle.std.proofs.Common.{subst, sym}
use Rattle.pending_images.specs.LeastSets.{IsLeastSet}
use Rattle.pending_images.proofs.LeastSetsAreFound.{is_least_set}
use Rattle.pending_images.proofs.OnlySet.{least_is_smallest}
use Rattle.pending_images.proofs.least_set.closed_set.Goals as goal

pub returns-clause-least : goal.returns-clause-least
returns-clause-least c =
    subst (IsLeastSet c.args.pending.now.shape c.args.pending.now.memory c.args.image.now) (sym c.in_ok-found.ensures)
    (is_least_set c.args.pending.now.shape c.args.image.now c.args.pending.now.memory c.keeps_to_layouts.ensures.shape c.keeps_to_layouts.ensures.lines c.keeps_to_layouts.ensures.every_word)

pub returns-clause-smallest : goal.returns-clause-smallest
returns-clause-smallest c = least_is_smallest _ _ _ _ (returns-clause-least c)
