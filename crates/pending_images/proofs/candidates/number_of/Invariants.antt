use Rattle.std.proofs.Common.{◌≡◌, ◌+◌}
use Rattle.pending_images.proofs.SumsOfProducts.{IsSum}
use Rattle.pending_images.proofs.candidates.number_of.Given as goal

abbrev pub invariant-loop-k : goal.invariant-loop-k
invariant-loop-k l = record {
  gone : l.gone ≡ record { pending = l.pending; markers = l.k };
  sum : IsSum (l.k + 1) l.pending.memory.pending l.sum;
}
