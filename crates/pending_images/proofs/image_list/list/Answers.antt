use Rattle.std.proofs.Common.{◌∙◌, ap, subst, sym}
use Rattle.pending_images.specs.Images.{IsListing}
use Rattle.pending_images.specs.Listings.{in_order}
use Rattle.pending_images.proofs.ImagesAreListed.{is_listing}
use Rattle.pending_images.proofs.image_list.list.Goals as goal

pub returns-clause-value : goal.returns-clause-value
returns-clause-value c = c.once.ensures.value ∙ ap in_order (rw c.pending-pending.ensures at c.in_ok-images.ensures)

pub returns-clause-listing : goal.returns-clause-listing
returns-clause-listing c =
    let law = rw c.pending-pending.ensures at c.keeps_to_layouts.ensures in
    subst (IsListing c.args.countable.now.shape c.args.countable.now.memory) (sym (returns-clause-value c))
    (is_listing c.args.countable.now.shape c.args.countable.now.memory law.shape law.lines law.every_word)
