use Rattle.std.proofs.Common.{◌≡◌, ◌*◌, map}
use Rattle.std.specs.List.{range_with_len}
use Rattle.explore.specs.Narrow.{value_after}
use Rattle.explore.proofs.asked.line_values.Given as goal

abbrev pub invariant-loop-place : goal.invariant-loop-place
invariant-loop-place l = l.values.items ≡ map (value_after l.pending.memory l.count) (range_with_len (8 * l.line) l.place)
