use Rattle.std.proofs.Common.{ℕ, ◌+◌, ◌-◌, ◌/◌, ◌<◌, length, arith}
use Rattle.std.specs.Prelude.{nat_lt}
use Rattle.std.proofs.lemmas.List.Sums.{count_by-le-length}
use Rattle.persist_buffer.proofs.CountsBelowASerial.{counted_past, counted_up_to}
use Rattle.persist_buffer.proofs.ring.count_below.Goals as goal

pub loop-low-init : goal.loop-low-init
loop-low-init c = record {
  least = omega arith;
  most = omega (arith, c.len-high.ensures.len, count_by-le-length (λ s. nat_lt s.serial c.args.serial) c.args.ring.now.items);
  within = omega (arith, c.len-high.ensures.len);
}

pub loop-low-preserved-then-at-serial : goal.loop-low-preserved-then-at-serial
loop-low-preserved-then-at-serial c =
    let middle : ℕ = c.loop-low.low + (c.loop-low.high - c.loop-low.low) / 2 in
    let there : middle < length c.args.ring.now.items = omega (arith, c.loop-low.invariant.within, c.loop-low-test.true) in
    record {
      least = counted_past c.args.serial c.args.ring.now.items middle c.at.result.now c.requires there c.at.ensures c.if-at-serial.true;
      most = c.loop-low.invariant.most;
      within = c.loop-low.invariant.within;
    }

pub loop-low-preserved : goal.loop-low-preserved
loop-low-preserved c =
    let middle : ℕ = c.loop-low.low + (c.loop-low.high - c.loop-low.low) / 2 in
    let there : middle < length c.args.ring.now.items = omega (arith, c.loop-low.invariant.within, c.loop-low-test.true) in
    record {
      least = c.loop-low.invariant.least;
      most = counted_up_to c.args.serial c.args.ring.now.items middle c.at.result.now c.requires there c.at.ensures c.if-at-serial.false;
      within = omega (arith, c.loop-low.invariant.within, c.loop-low-test.true);
    }
