-- What a crash may leave, it may leave with fewer markers.
use Rattle.std.proofs.Common.{ℕ, List, ap, sym, ◌∙◌}
use Rattle.machine.specs.State.{State}
use Rattle.images.specs.Images.{IsImage, image_at}
use Rattle.fewer_fences.specs.Thinner.{IsThinner}
use Rattle.fewer_fences.proofs.ThinnerMemories.{reached_too}

pub image_kept : (more less : State) (image : List ℕ) → IsThinner more less → IsImage more image → IsImage less image
image_kept more less image h (persisted, reached, shown) =
    (persisted, reached_too more.memory less.memory persisted h.memory reached, shown ∙ ap (λ over. image_at over persisted) (sym h.shape))
