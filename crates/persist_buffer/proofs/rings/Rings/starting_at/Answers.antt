use Rattle.std.proofs.Common.{refl}
use Rattle.persist_buffer.proofs.RingEdits.{again}
use Rattle.persist_buffer.proofs.EmptyFrom.{empty_fresh}
use Rattle.persist_buffer.proofs.EmptyRings.{fresh}
use Rattle.persist_buffer.proofs.rings.Rings.starting_at.Goals as goal

pub invariant_of-result : goal.invariant_of-result
invariant_of-result c = (again _ _ _ (fresh _ 65 _ refl c.requires c.in_ok-rings.ensures), empty_fresh 65 _ c.in_ok-rings.ensures)

pub returns : goal.returns
returns c = let m = fresh _ 65 _ refl c.requires c.in_ok-rings.ensures in rw m.merges refl
