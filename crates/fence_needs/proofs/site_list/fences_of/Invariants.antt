use Rattle.std.proofs.Common.{◌≡◌, ℕ, take}
use Rattle.std.specs.List.{enumerate_from, flat_map}
use Rattle.isa.specs.declared.programs.Programs.{Programs}
use Rattle.fence_needs.specs.Sites.{sites_by}
use Rattle.fence_needs.proofs.site_list.fences_of.Given as goal

abbrev pub invariant-loop-processor : goal.invariant-loop-processor
invariant-loop-processor l = l.sites.items ≡ flat_map (λ (e : ℕ × Programs). sites_by e.0 e.1) (enumerate_from 0 (take l.processor l.object.processors))
