use Rattle.std.proofs.Common.{◌≡◌, ◌++◌, drop}
use Rattle.fence_needs.specs.Least.{spare}
use Rattle.fence_needs.proofs.choices.spare.Given as goal

abbrev pub invariant-loop-one : goal.invariant-loop-one
invariant-loop-one l = l.sites.items ++ spare (drop l.one-index l.needs) ≡ spare l.needs
