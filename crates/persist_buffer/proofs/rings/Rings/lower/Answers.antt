use Rattle.std.proofs.Common.{refl}
use Rattle.persist_buffer.proofs.RingEdits.{again}
use Rattle.persist_buffer.proofs.EmptyFrom.{empty_shifted}
use Rattle.persist_buffer.proofs.RenumberedSerials.{moved}
use Rattle.persist_buffer.proofs.rings.Rings.lower.Goals as goal

pub invariant_of-self : goal.invariant_of-self
invariant_of-self c =
    let clear = rw (← c.self.view_is) at c.requires in
    rw c.shift_rings.ensures (again _ _ _ (moved _ _ _ c.args.from c.args.gap c.self.invariant.0 clear), empty_shifted c.args.from c.args.gap c.self.inside.used c.self.inside.rings.items _ refl c.self.invariant.1)

pub returns : goal.returns
returns c =
    let clear = rw (← c.self.view_is) at c.requires in
    let m = moved _ _ _ c.args.from c.args.gap c.self.invariant.0 clear in
    rw (← c.self.view_is, c.shift_rings.ensures, m.merges) refl
