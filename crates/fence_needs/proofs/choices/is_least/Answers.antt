use Rattle.std.proofs.Common.{rules, ◌≡◌, ℕ, suc, ◌+◌, true, List, length, refl, sym, ap, subst, ◌∙◌, arith}
use Rattle.rayon.proofs.ListFacts.{IfOk-then}
use Rattle.machine.specs.Objects.{IsLoadable}
use Rattle.image_reasons.specs.declared.entries.Site.{Site}
use Rattle.fence_needs.specs.Least.{most_choices, no_more_can_go, spare}
use Rattle.fence_needs.specs.Needs.{left_out}
use Rattle.fence_needs.specs.Tried.{AreTried}
use Rattle.fence_needs.proofs.ChoicesAreTried.{said_of_all}
use Rattle.fence_needs.proofs.choices.is_least.Goals as goal

pub returns : goal.returns
returns g c =
    λ are.
    let question = c.args.question.now in
    let limit = c.args.limit in
    let object = c.args.object.now in
    let needs = c.args.needs.now in
    let new = c.each_choice_breaks.new.left in
    let loadable : IsLoadable object = c.processors-processors.ensures.loadable in
    let settled : no_more_can_go needs ≡ true = sym c.no_more_can_go.ensures ∙ c.if-not-no_more_can_go.false in
    let out : c.in_ok-left_out.field-0.items ≡ left_out needs = c.in_ok-left_out.ensures in
    let filled : c.in_ok-left_out.field-0.len ≡ length c.in_ok-left_out.field-0.items = search rules in
    let count : c.len-more.result ≡ length (left_out needs) = c.len-more.ensures ∙ (filled ∙ ap (λ (sites : List Site). length sites) out) in
    let more : c.len-more.result + 1 ≡ suc (length (left_out needs)) = omega (arith, count) in
    let sites : c.deref.result.now ≡ spare needs = c.deref.ensures.value ∙ c.in_ok-sites.ensures in
    IfOk-then c.each_choice_breaks.result _ _ c.each_choice_breaks.ensures
    (λ told tried.
    said_of_all question limit object needs most_choices new told loadable are settled refl
    (subst (λ (n : ℕ). AreTried question limit object n (spare needs) most_choices new told) more
    (subst (λ (all : List Site). AreTried question limit object (c.len-more.result + 1) all most_choices new told) sites tried)))
