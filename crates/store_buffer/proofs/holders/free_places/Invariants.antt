use Rattle.std.proofs.Common.{◌≡◌}
use Rattle.store_buffer.specs.Indexes.{free_before}
use Rattle.store_buffer.proofs.holders.free_places.Given as goal

abbrev pub invariant-loop-place : goal.invariant-loop-place
invariant-loop-place l = l.free ≡ free_before l.entries l.place
