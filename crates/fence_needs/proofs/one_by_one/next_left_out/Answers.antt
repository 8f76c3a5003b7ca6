use Rattle.std.proofs.Common.{◌≡◌, IfOk, Option, Some, sym, subst}
use Rattle.rayon.proofs.ListFacts.{IfOk-then}
use Rattle.isa.specs.Objects.{Object}
use Rattle.fence_needs.specs.Tried.{GoesOn}
use Rattle.fence_needs.proofs.NeedsGoOn.{next_tried}
use Rattle.fence_needs.proofs.one_by_one.next_left_out.Goals as goal

pub returns-in-Some : goal.returns-in-Some
returns-in-Some g c =
    let question = c.args.question.now in
    let limit = c.args.limit in
    let object = c.args.object.now in
    let site = c.args.site in
    let left = c.in-Some.left in
    let new = c.one_more.new.left in
    let is : c.args.left.now ≡ Some left = c.in-Some.is in
    subst (λ (old : Option Object). IfOk c.one_more.result (λ need. GoesOn question limit object site need old (Some new))) (sym is)
    (IfOk-then c.one_more.result _ _ c.one_more.ensures (λ need tried. next_tried question limit object site left new need c.requires tried))
