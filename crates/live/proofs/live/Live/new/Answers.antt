use Rattle.std.proofs.Common.{rules}
use Rattle.live.proofs.FreshSeats.{one_more}
use Rattle.live.proofs.live.Live.new.Goals as goal

pub loop-number-preserved : goal.loop-number-preserved
loop-number-preserved g c = record {
  parts = search rules;
  amount = search rules;
  room = search rules;
  fresh = rw (c.push_reserved.ensures.items, c.fresh.ensures) (one_more c.loop-number.handed.items c.loop-number.number c.loop-number.invariant.fresh);
}
