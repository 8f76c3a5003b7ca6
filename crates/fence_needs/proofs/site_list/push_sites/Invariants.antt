use Rattle.std.proofs.Common.{◌≡◌, ◌++◌, take}
use Rattle.fence_needs.specs.Sites.{sites_in}
use Rattle.fence_needs.proofs.site_list.push_sites.Given as goal

abbrev pub invariant-loop-place : goal.invariant-loop-place
invariant-loop-place l = l.sites.items ≡ l.initial.sites.items ++ sites_in l.processor l.recovering (take l.place l.code)
