use Rattle.std.proofs.Common.{◌≡◌, drop}
use Rattle.fence_needs.specs.Changes.{without_all}
use Rattle.fence_needs.proofs.change.without_all.Given as goal

abbrev pub invariant-loop-site : goal.invariant-loop-site
invariant-loop-site l = without_all l.changed (drop l.site-index l.sites) ≡ without_all l.object l.sites
