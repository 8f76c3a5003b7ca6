use Rattle.std.proofs.Common.{◌≡◌, ◌+◌, ◌≤◌, List, ℕ, not}
use Rattle.pending_images.specs.Candidates.{all_lines, most_candidates}
use Rattle.images.specs.Truth.{holds_on}
use Rattle.explore.specs.Asked.{asked_by}
use Rattle.explore.specs.Narrow.{IsLeast, IsLeftBelow, products_on}
use Rattle.explore.proofs.asked.least_breaking.Given as goal

abbrev pub invariant-loop-k : goal.invariant-loop-k
invariant-loop-k l = record {
  sum : l.sum ≡ products_on (asked_by l.cond) all_lines (l.k + 1) l.view.memory.pending;
  few : l.sum ≤ most_candidates;
  least : IsLeast (IsLeftBelow l.view (l.k + 1)) (λ (image : List ℕ). not (holds_on l.view l.cond image)) l.least;
}
