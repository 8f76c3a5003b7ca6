use Rattle.std.proofs.Common.{List, ◌≡◌, ap, arith, length, sym, ◌∙◌}
use Rattle.explore.specs.Found.{Link, links_of}
use Rattle.explore.specs.KeyTables.{parts}
use Rattle.explore.proofs.KeyChains.{parts_long}
use Rattle.explore.proofs.LinksKept.{links_long}
use Rattle.explore.proofs.links.Links.len.Goals as goal

pub returns : goal.returns
returns c =
    let ends = c.self.inside.ends.items in
    let steps = parts 0 ends c.self.inside.steps.items in
    let few = parts_long 0 ends c.self.inside.steps.items in
    let same : length c.self.inside.parents.items ≡ length steps = omega (arith, few, c.self.invariant.1) in
    let long = links_long c.self.inside.parents.items steps same in
    let count : c.len.result ≡ length ends = omega arith in
    let all : c.len.result ≡ length (links_of c.self.inside.parents.items steps) = omega (arith, count, long, few) in
    all ∙ ap (λ (links : List Link). length links) c.self.view_is
