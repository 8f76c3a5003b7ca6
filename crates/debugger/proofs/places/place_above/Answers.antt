use Rattle.std.proofs.Common.{arith, ap, sym, ◌∙◌}
use Rattle.std.specs.Prelude.{nat_lt}
use Rattle.std.proofs.lemmas.Bool.{lt-ltb}
use Rattle.debugger.proofs.PlacesInMappedLists.{first_at, none_at}
use Rattle.debugger.proofs.places.place_above.Goals as goal

pub returns-then-id-stop-clause-value : goal.returns-then-id-stop-clause-value
returns-then-id-stop-clause-value g c = sym (first_at (λ t. nat_lt c.args.id t.id) c.args.stops.now c.loop-place.place c.index-stops-place.result c.loop-place-test.true (λ k lt. c.loop-place.invariant k _ lt) (ap (λ t. nat_lt c.args.id t.id) (sym c.index-stops-place.is) ∙ lt-ltb _ _ c.if-id-stop.true))

pub returns-clause-value : goal.returns-clause-value
returns-clause-value g c = sym (none_at (λ t. nat_lt c.args.id t.id) c.args.stops.now c.loop-place.place (omega arith) (λ k d lt. c.loop-place.invariant k d lt))
