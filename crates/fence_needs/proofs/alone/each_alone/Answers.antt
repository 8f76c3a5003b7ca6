use Rattle.std.proofs.Common.{◌≡◌, ℕ, IfOk, sym, ap, ◌∙◌, subst}
use Rattle.std.specs.List.{AllZip}
use Rattle.rayon.proofs.ToStd.{slice-AllZip}
use Rattle.isa.specs.Objects.{Object}
use Rattle.explore.specs.declared.question.Question.{Question}
use Rattle.fence_needs.specs.Tried.{IsOneAlone}
use Rattle.fence_needs.proofs.NeedsGoOn.{all_made}
use Rattle.fence_needs.proofs.alone.each_alone.Goals as goal

pub returns-in-Ok-made : goal.returns-in-Ok-made
returns-in-Ok-made g c =
    let chain = c.with_min_len.result.base in
    let sites = c.args.sites.now in
    let sites_are : chain.base.slice.now ≡ sites =
    ap (λ it. it.base.slice.now) c.with_min_len.ensures.base ∙ (ap (λ it. it.slice.now) c.map-chain.ensures.base ∙ c.par_iter.ensures) in
    let object_is : chain.f.1.now ≡ c.args.object.now = ap (λ it. it.f.1.now) c.with_min_len.ensures.base ∙ ap (λ f. f.1.now) c.map-chain.ensures.f in
    let question_is : chain.f.2.now ≡ c.args.question.now = ap (λ it. it.f.2.now) c.with_min_len.ensures.base ∙ ap (λ f. f.2.now) c.map-chain.ensures.f in
    let limit_is : chain.f.3 ≡ c.args.limit = ap (λ it. it.f.3) c.with_min_len.ensures.base ∙ ap (λ f. f.3) c.map-chain.ensures.f in
    let h = c.in-Ok.ensures in
    let told = rw c.in-Ok-made.is at h.2 in
    let given = h.1 in
    let each = slice-AllZip given.0 sites (given.1 ∙ sites_are) (λ site made. IfOk made (IsOneAlone chain.f.2.now chain.f.3 chain.f.1.now site)) h.0 given.2 in
    let asked =
    subst (λ (z : Question × ℕ × Object). AllZip (λ site made. IfOk made (IsOneAlone z.0 z.1 z.2 site)) sites h.0)
    (λ i. (question_is i, limit_is i, object_is i)) each in
    subst (AllZip (IsOneAlone c.args.question.now c.args.limit c.args.object.now) sites) (sym told.2)
    (all_made (IsOneAlone c.args.question.now c.args.limit c.args.object.now) sites h.0 told.0 asked told.1)
