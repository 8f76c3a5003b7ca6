use Rattle.std.proofs.Common.{◌≡◌, ◌≤◌}
use Rattle.pending_images.specs.Candidates.{product}
use Rattle.pending_images.proofs.gone.Gone.product.Given as goal

abbrev pub invariant-loop-number : goal.invariant-loop-number
invariant-loop-number l = record {
  same : l.product ≡ product l.number l.self.markers l.self.pending.memory.pending;
  few : l.product ≤ 65536;
}
