use Rattle.std.proofs.Common.{arith}
use Rattle.std.proofs.lemmas.List.Edits.{map_over_more}
use Rattle.persist_buffer.specs.Renumbering.{shifted_ring}
use Rattle.persist_buffer.proofs.rings.shift_rings.Goals as goal

pub loop-r-preserved : goal.loop-r-preserved
loop-r-preserved c = record {
  ends = c.loop-r.invariant.ends;
  items = rw c.shift.ensures (map_over_more (shifted_ring c.args.from c.args.gap) c.args.rings.now.items c.loop-r.rings.items c.loop-r.r c.index_mut-ring.result.now (omega arith) c.loop-r.invariant.items c.index_mut-ring.ensures.value);
}
