use Rattle.std.proofs.Common.{◌≡◌, ◌++◌, map}
use Rattle.std.specs.List.{range_with_len}
use Rattle.std.specs.Prelude.{slice_index}
use Rattle.explore.specs.Codes.{coded}
use Rattle.explore.proofs.key.push_value_bytes.Given as goal

abbrev pub invariant-loop-place : goal.invariant-loop-place
invariant-loop-place l = l.bytes.items ≡ l.fn.bytes.items ++ coded (map (slice_index l.pending.memory.persisted) (range_with_len l.start l.place))
