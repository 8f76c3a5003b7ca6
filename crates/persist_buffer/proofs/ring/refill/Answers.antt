use Rattle.std.proofs.Common.{ap}
use Rattle.circular_buffer.specs.Buffer.{buffer}
use Rattle.persist_buffer.proofs.Refilling.{filled}
use Rattle.persist_buffer.proofs.ring.refill.Goals as goal

pub returns : goal.returns
returns g c =
    let first = rw c.clear.ensures at c.fill_from_slice.ensures.count in
    let second = rw (c.fill_from_slice.ensures.items, c.clear.ensures) at c.fill_from_slice-2.ensures.count in
    rw (c.fill_from_slice-2.ensures.items, c.fill_from_slice.ensures.items, c.clear.ensures)
    (ap (λ xs. buffer xs c.args.ring.now.capacity) (filled _ _ _ _ _ _ c.as_slices.ensures c.requires first second))
