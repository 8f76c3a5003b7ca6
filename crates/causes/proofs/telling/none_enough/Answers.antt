use Rattle.std.proofs.Common.{false, sym, true≢false}
use Rattle.causes.proofs.Leads.{one_more}
use Rattle.causes.proofs.telling.none_enough.Goals as goal

pub loop-write-preserved : goal.loop-write-preserved
loop-write-preserved c =
    one_more (λ write. ⊥) c.args.missing.now c.loop-write.write-index c.loop-write.told.items _
    (record { write = c.write-item.result; enough = false }) c.in_ok-push.ensures.items c.loop-write-test.true c.write-item.is
    (λ is. absurd (true≢false (sym is))) c.loop-write.invariant
