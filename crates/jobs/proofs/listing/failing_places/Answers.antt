use Rattle.jobs.proofs.FailingPlaces.{failing_more}
use Rattle.jobs.proofs.listing.failing_places.Goals as goal

pub loop-place-preserved : goal.loop-place-preserved
loop-place-preserved c =
    failing_more c.args.view.now c.args.cond.now c.args.images.now c.loop-place.place c.index-images-place.result _ c.loop-place.places.items _ _
    c.loop-place-test.true c.index-images-place.is c.in_ok-push_failing.ensures c.loop-place.invariant
