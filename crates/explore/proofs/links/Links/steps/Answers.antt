use Rattle.std.proofs.Common.{ℕ, List, ◌≡◌, ◌<◌, Some, ap, arith, length, sym, ◌∙◌}
use Rattle.std.specs.Prelude.{slice_get, slice_index}
use Rattle.std.proofs.lemmas.List.{get_or_read}
use Rattle.std.proofs.lemmas.Option.{get_or_from_slice_get}
use Rattle.machine.specs.declared.step.Step.{Step}
use Rattle.explore.specs.Found.{Link, links_of}
use Rattle.explore.specs.KeyTables.{parts}
use Rattle.explore.proofs.KeyChains.{parts_long}
use Rattle.explore.proofs.LinksKept.{link_parent, link_steps, links_long}
use Rattle.explore.proofs.links.Links.steps.Goals as goal

pub steps_at-requires-clause-there : goal.steps_at-requires-clause-there
steps_at-requires-clause-there c =
    let ps = c.self.inside.parents.items in
    let ends = c.self.inside.ends.items in
    let steps = parts 0 ends c.self.inside.steps.items in
    let few = parts_long 0 ends c.self.inside.steps.items in
    let same : length ps ≡ length steps = omega (arith, few, c.self.invariant.1) in
    let long = links_long ps steps same in
    let all = ap (λ (links : List Link). length links) c.self.view_is in
    let there = c.requires in
    let given = c.deref-2.ensures.value in
    omega (arith, few, same, long, all, there, ap (λ (xs : List ℕ). length xs) given)

pub returns : goal.returns
returns c link there =
    let ps = c.self.inside.parents.items in
    let ends = c.self.inside.ends.items in
    let steps = parts 0 ends c.self.inside.steps.items in
    let few = parts_long 0 ends c.self.inside.steps.items in
    let same : length ps ≡ length steps = omega (arith, few, c.self.invariant.1) in
    let long = links_long ps steps same in
    let all = ap (λ (links : List Link). length links) c.self.view_is in
    let one : slice_get steps c.args.at ≡ Some link.steps = link_steps ps steps c.args.at link (ap (λ (links : List Link). slice_get links c.args.at) c.self.view_is ∙ there) in
    let both : Some c.steps_at.result.now ≡ Some link.steps = sym c.steps_at.ensures ∙ (λ k. slice_get (parts 0 (c.deref-2.ensures.value k) (c.deref.ensures.value k)) c.args.at) ∙ one in
    cc
