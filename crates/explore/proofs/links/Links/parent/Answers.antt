use Rattle.std.proofs.Common.{ℕ, List, ◌≡◌, ◌<◌, Some, ap, arith, length, sym, ◌∙◌}
use Rattle.std.specs.Prelude.{slice_get, slice_index}
use Rattle.std.proofs.lemmas.List.{get_or_read}
use Rattle.std.proofs.lemmas.Option.{get_or_from_slice_get}
use Rattle.machine.specs.declared.step.Step.{Step}
use Rattle.explore.specs.Found.{Link, links_of}
use Rattle.explore.specs.KeyTables.{parts}
use Rattle.explore.proofs.KeyChains.{parts_long}
use Rattle.explore.proofs.LinksKept.{link_parent, link_steps, links_long}
use Rattle.explore.proofs.links.Links.parent.Goals as goal

pub index-requires : goal.index-requires
index-requires c =
    let ps = c.self.inside.parents.items in
    let ends = c.self.inside.ends.items in
    let steps = parts 0 ends c.self.inside.steps.items in
    let few = parts_long 0 ends c.self.inside.steps.items in
    let same : length ps ≡ length steps = omega (arith, few, c.self.invariant.1) in
    let long = links_long ps steps same in
    let all = ap (λ (links : List Link). length links) c.self.view_is in
    let there = c.requires in
    omega (arith, few, same, long, all, there)

pub returns : goal.returns
returns c link there =
    let ps = c.self.inside.parents.items in
    let ends = c.self.inside.ends.items in
    let steps = parts 0 ends c.self.inside.steps.items in
    let few = parts_long 0 ends c.self.inside.steps.items in
    let same : length ps ≡ length steps = omega (arith, few, c.self.invariant.1) in
    let long = links_long ps steps same in
    let all = ap (λ (links : List Link). length links) c.self.view_is in
    let inside : c.args.at < length ps = omega (arith, few, same, long, all, c.requires) in
    get_or_read ps _ _ inside c.index.ensures 0
    ∙ get_or_from_slice_get ps c.args.at link.parent 0 (link_parent ps steps c.args.at link (ap (λ (links : List Link). slice_get links c.args.at) c.self.view_is ∙ there))
