use Rattle.std.proofs.Common.{◌≡◌, ◌++◌}
use Rattle.std.specs.List.{filter_map, range_with_len}
use Rattle.image_reasons.specs.Reasons.{missing_place}
use Rattle.image_reasons.proofs.origins.Origins.push_pending.Given as goal

abbrev pub invariant-loop-place : goal.invariant-loop-place
invariant-loop-place l = l.missing.items ≡ l.fn.missing.items ++ filter_map (missing_place l.self l.stores l.shape l.image l.places) (range_with_len 0 l.place)
