use Rattle.std.specs.Prelude.{true, ◌≡◌}
use Rattle.std.proofs.lemmas.List.Elements.{All-contains}
use Rattle.image_reasons.specs.declared.entries.Site.{Site}
use Rattle.fence_needs.specs.Sites.{instr_at, is_fence, sites_of}
use Rattle.fence_needs.proofs.SitesAreOfFences.{listed_always, listed_only}
use Rattle.fence_needs.proofs.laws.all_fences_are_listed.Goals as goal

pub returns : goal.returns
returns c object site =
    ((λ listed. All-contains (λ (s : Site). is_fence (instr_at object s) ≡ true) (sites_of object) site (listed_only object) listed), (λ is. listed_always object site is))
