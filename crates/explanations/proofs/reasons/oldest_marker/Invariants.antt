use Rattle.std.proofs.Common.{◌≡◌, drop}
use Rattle.persist_buffer.specs.Memories.{oldest_marker, oldest_marker_from}
use Rattle.explanations.proofs.reasons.oldest_marker.Given as goal

abbrev pub invariant-loop-place : goal.invariant-loop-place
invariant-loop-place l = oldest_marker_from l.place (drop l.place l.pending) ≡ oldest_marker l.pending
