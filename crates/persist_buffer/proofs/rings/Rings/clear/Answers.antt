use Rattle.std.proofs.Common.{refl}
use Rattle.persist_buffer.proofs.RingEdits.{again}
use Rattle.persist_buffer.proofs.EmptyFrom.{empty_cleared}
use Rattle.persist_buffer.proofs.EmptyRings.{cleared}
use Rattle.persist_buffer.proofs.rings.Rings.clear.Goals as goal

pub invariant_of-self : goal.invariant_of-self
invariant_of-self c = rw c.clear_rings.ensures (again _ _ _ (cleared _ _ _ c.self.invariant.0), empty_cleared c.self.inside.rings.items _ refl)

pub returns : goal.returns
returns c = let m = cleared _ _ _ c.self.invariant.0 in rw (← c.self.view_is, c.clear_rings.ensures, m.merges) refl
