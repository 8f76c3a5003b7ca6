use Rattle.std.proofs.Common.{ℕ, suc, ◌≡◌, ◌++◌, ◌<◌, [], length, reverse}
use Rattle.std.specs.Prelude.{Some}
use Rattle.std.specs.Option.{option_map_or}
use Rattle.explore.specs.Found.{linked, path_at}
use Rattle.explore.proofs.LinksGoOn.{rest_of}
use Rattle.explore.proofs.found.steps_to.Given as goal

abbrev pub invariant-loop-next : goal.invariant-loop-next
invariant-loop-next l = record {
  steps : path_at (linked [] l.links) l.at ≡ rest_of (linked [] l.links) l.next ++ reverse l.back.items;
  within : (i : ℕ) → l.next ≡ Some i → i < length l.links;
}

abbrev pub decreases-loop-next : goal.decreases-loop-next
decreases-loop-next l = option_map_or suc l.next 0
