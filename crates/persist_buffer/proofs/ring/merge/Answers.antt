use Rattle.std.proofs.Common.{arith, drop}
use Rattle.persist_buffer.proofs.Merging.{ComesNow, list_passed, ring_passed, now_at_end, now_before}
use Rattle.persist_buffer.proofs.ring.merge.Goals.{then-loop-next-test+else-list-next, else-loop-next-test}
use Rattle.persist_buffer.proofs.ring.merge.Goals as goal

pub loop-next-preserved : goal.loop-next-preserved
loop-next-preserved c = record {
  within = omega (arith, c.loop-next-test.true);
  ends = c.loop-next.invariant.ends;
  merging = rw c.in_ok-push.ensures.items (list_passed _ _ _ _ _ c.index-list-next-in-loop-next.result _ c.at-entry.result.now c.loop-next.invariant.merging c.loop-next-test.true
      (omega (arith, c.loop-i-test.true, c.loop-i.invariant.ends)) c.requires c.index-list-next-in-loop-next.is c.at-entry.ensures c.if-list-next.true);
}

pub loop-i-preserved : goal.loop-i-preserved
loop-i-preserved c =
    let now : ComesNow c.at-entry.result.now (drop c.loop-next.next c.args.list.now) = elim c.loop-next-test.branch [
      | then-loop-next-test+else-list-next w ↦ now_before c.at-entry.result.now w.index-list-next.result c.args.list.now c.loop-next.next w.loop-next-test.true w.if-list-next.false
      | else-loop-next-test w ↦ now_at_end c.at-entry.result.now c.args.list.now c.loop-next.next (omega (arith, w.loop-next-test.false))
    ] in
    record {
      within = c.loop-next.invariant.within;
      ends = c.loop-next.invariant.ends;
      merging = rw c.in_ok-push-2.ensures.items (ring_passed _ _ _ _ _ c.at-entry.result.now c.loop-next.invariant.merging
          (omega (arith, c.loop-i-test.true, c.loop-i.invariant.ends)) c.requires c.at-entry.ensures now);
    }
