use Rattle.std.proofs.Common.{ℕ, ◌<◌, ◌≤◌, Some, [], get_or, subst, sym}
use Rattle.std.proofs.lemmas.Option.{slice_get-get_or}
use Rattle.explore.specs.Found.{IsBefore, Link, linked}
use Rattle.explore.proofs.LinksGoOn.{before_none, before_some}
use Rattle.explore.proofs.found.before.Goals as goal

pub returns-then-parent-at : goal.returns-then-parent-at
returns-then-parent-at c =
    let links = c.args.links.now in
    let none : Link = record { parent = 0; steps = [] } in
    let link : Link = get_or links c.args.at none in
    let there = slice_get-get_or links c.args.at none c.requires in
    let same = c.parent-parent.ensures link there in
    subst (λ (n : ℕ). IsBefore (linked [] links) links c.args.at (Some n)) (sym same) (before_some links c.args.at link there (subst (λ (n : ℕ). n < c.args.at) same c.if-parent-at.true))

pub returns-else-parent-at : goal.returns-else-parent-at
returns-else-parent-at c =
    let links = c.args.links.now in
    let none : Link = record { parent = 0; steps = [] } in
    let link : Link = get_or links c.args.at none in
    let there = slice_get-get_or links c.args.at none c.requires in
    let same = c.parent-parent.ensures link there in
    before_none links c.args.at link there (subst (λ (n : ℕ). c.args.at ≤ n) same c.if-parent-at.false)
