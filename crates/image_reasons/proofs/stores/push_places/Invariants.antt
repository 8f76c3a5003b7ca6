use Rattle.std.proofs.Common.{◌≡◌, ◌++◌, drop}
use Rattle.std.specs.Prelude.{filter_map, slice_get}
use Rattle.image_reasons.proofs.stores.push_places.Given as goal

abbrev pub invariant-loop-place : goal.invariant-loop-place
invariant-loop-place l = l.kept.items ++ filter_map (slice_get l.pended) (drop l.place-index l.places) ≡ l.fn.kept.items ++ filter_map (slice_get l.pended) l.places
