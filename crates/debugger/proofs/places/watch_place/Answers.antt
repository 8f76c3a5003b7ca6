use Rattle.std.proofs.Common.{arith, ◌==◌, ap, sym, ◌∙◌}
use Rattle.debugger.proofs.PlacesInMappedLists.{is_same, first_place, no_place_found}
use Rattle.debugger.proofs.places.watch_place.Goals as goal

pub returns-then-attached-id : goal.returns-then-attached-id
returns-then-attached-id g c = sym (first_place (λ t. t.id == c.args.id) c.args.watchers.now c.loop-place.place c.index-watchers-place.result c.loop-place-test.true (λ k lt. c.loop-place.invariant k _ lt) (ap (λ t. t.id == c.args.id) (sym c.index-watchers-place.is) ∙ is_same _ _ c.if-attached-id.true))

pub returns : goal.returns
returns g c = sym (no_place_found (λ t. t.id == c.args.id) c.args.watchers.now c.loop-place.place (omega arith) (λ k d lt. c.loop-place.invariant k d lt))
