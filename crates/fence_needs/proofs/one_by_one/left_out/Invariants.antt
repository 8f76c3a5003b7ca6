use Rattle.std.proofs.Common.{◌≡◌, ◌++◌, drop}
use Rattle.fence_needs.specs.Needs.{left_out}
use Rattle.fence_needs.proofs.one_by_one.left_out.Given as goal

abbrev pub invariant-loop-one : goal.invariant-loop-one
invariant-loop-one l = l.sites.items ++ left_out (drop l.one-index l.needs) ≡ left_out l.needs
