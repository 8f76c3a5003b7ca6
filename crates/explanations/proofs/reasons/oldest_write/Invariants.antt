use Rattle.std.proofs.Common.{◌≡◌, drop}
use Rattle.persist_buffer.specs.Memories.{oldest_write, oldest_write_from}
use Rattle.explanations.proofs.reasons.oldest_write.Given as goal

abbrev pub invariant-loop-place : goal.invariant-loop-place
invariant-loop-place l = oldest_write_from l.place l.line (drop l.place l.pending) ≡ oldest_write l.line l.pending
