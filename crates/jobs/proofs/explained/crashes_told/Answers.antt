use Rattle.jobs.specs.Explained.{IsCrashTold}
use Rattle.jobs.proofs.ExplainedRuns.{one_more}
use Rattle.jobs.proofs.explained.crashes_told.Goals as goal

pub loop-place-preserved : goal.loop-place-preserved
loop-place-preserved g c =
    one_more (IsCrashTold c.args.states c.args.start.now c.args.failure.now) c.args.places.now c.loop-place.place-index c.loop-place.told.items _ _ 0
    c.in_ok-push.ensures.items c.loop-place-test.true c.in_ok-crash_told.ensures.place c.in_ok-crash_told.ensures.told c.loop-place.invariant
