use Rattle.std.proofs.Common.{◌∙◌, ◌<◌, ap, arith, length, sym, Some, ℕ}
use Rattle.persist_buffer.specs.Listings.{writes_on}
use Rattle.pending_images.proofs.CountsBeforeMarkers.{before_within}
use Rattle.pending_images.proofs.WritesChangeOnePlace.{placed_at, written_there}
use Rattle.pending_images.proofs.formed.placed_write.Goals as goal

pub write-word-requires : goal.write-word-requires
write-word-requires c =
    let es = c.args.gone.now.pending.memory.pending in
    let few = before_within c.args.line c.args.gone.now.markers es in
    let inside : c.args.i < length (writes_on c.args.line es) = omega (arith, few, c.requires) in
    rw c.pending-pending.ensures (written_there c.args.line c.args.i es inside)

pub returns : goal.returns
returns c =
    let place = rw (c.shape.ensures, c.pending-pending.ensures) at c.place_of.ensures in
    placed_at c.args.gone.now.pending.shape c.args.line c.args.i _ _ c.args.gone.now.pending.memory.pending (rw c.pending-pending.ensures at c.write-word.ensures) ∙ ap (λ (n : ℕ). Some (n, c.write-word.result.1)) (sym place)
