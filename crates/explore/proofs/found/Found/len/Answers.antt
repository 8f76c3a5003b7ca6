use Rattle.std.proofs.Common.{List, ◌≡◌, [], ap, arith, length, ◌∙◌}
use Rattle.explore.specs.Found.{Found, Link, linked}
use Rattle.explore.proofs.LinksGoOn.{linked_long}
use Rattle.explore.proofs.found.Found.len.Goals as goal

pub returns : goal.returns
returns c =
    let links : List Link = c.self.inside.links in
    let long = linked_long [] links in
    let same : length links ≡ length (linked [] links) = omega (arith, long) in
    c.len.ensures ∙ same ∙ ap (λ (f : Found). length f.paths) c.self.view_is
