use Rattle.std.proofs.Common.{arith, sym, ◌∙◌}
use Rattle.persist_buffer.specs.Renumbering.{shifted}
use Rattle.persist_buffer.proofs.RenumberedSerials.{rotated, rotated_length}
use Rattle.persist_buffer.proofs.ring.shift.Goals as goal

pub append-requires : goal.append-requires
append-requires c =
    let e = sym c.take_front-first.ensures.items ∙ c.loop.invariant.items in
    let n = rotated_length (shifted c.args.from c.args.gap) c.args.ring.now.items c.loop.counter c.take_front-first.result c.take_front-first.new.ring.items (omega arith) e in
    omega arith

pub loop-preserved : goal.loop-preserved
loop-preserved c =
    let e = sym c.take_front-first.ensures.items ∙ c.loop.invariant.items in
    record {
      fits = c.loop.invariant.fits;
      ends = c.loop.invariant.ends;
      capacity = rw c.append.ensures (c.take_front-first.ensures.capacity ∙ c.loop.invariant.capacity);
      items = rw (c.append.ensures, c.lowered-serial.ensures) (rotated (shifted c.args.from c.args.gap) c.args.ring.now.items c.loop.counter c.take_front-first.result c.take_front-first.new.ring.items (omega arith) e);
    }
