use Rattle.std.proofs.Common.{rules, ◌≡◌, ℕ, ◌<◌, ◌⊎◌, inl, inr, IsTrue, List, length, ap, subst, ◌∙◌}
use Rattle.std.specs.List.{AllZip}
use Rattle.image_reasons.specs.declared.entries.Site.{Site}
use Rattle.verdicts.specs.Verdicts.{IsKeptBy}
use Rattle.fence_needs.specs.Changes.{without_all}
use Rattle.fence_needs.specs.Needs.{left_out}
use Rattle.fence_needs.specs.Tried.{AreEachAlone, IsOneAlone}
use Rattle.fence_needs.proofs.NeedsGoOn.{all_alone}
use Rattle.fence_needs.proofs.all_needs.found.Goals as goal
use Rattle.fence_needs.proofs.all_needs.found.Goals.{then-len-lt2, else-len-lt2+in_ok-holds_without}

pub returns-then-branch : goal.returns-then-branch
returns-then-branch g c =
    let question = c.args.question.now in
    let limit = c.args.limit in
    let object = c.args.object.now in
    let alone = c.in_ok-alone.alone.items in
    let each : AreEachAlone question limit object alone =
    subst (λ (sites : List Site). AllZip (IsOneAlone question limit object) sites alone) c.requires c.in_ok-alone.ensures in
    let spare : c.in_ok-spare.spare.items ≡ left_out alone = c.in_ok-spare.ensures ∙ ap left_out c.deref.ensures.value in
    let go : (length (left_out alone) < 2) ⊎ IsKeptBy question (without_all object (left_out alone)) =
    elim c.if-len-lt2.branch [
      | then-len-lt2 w ↦
          let filled : c.in_ok-spare.spare.len ≡ length c.in_ok-spare.spare.items = search rules in
          let count : c.len.result ≡ length (left_out alone) = c.len.ensures ∙ (filled ∙ ap (λ (sites : List Site). length sites) spare) in
          inl (subst (λ (n : ℕ). n < 2) count w.if-len-lt2.true)
      | else-len-lt2+in_ok-holds_without w ↦
          let holds : IsTrue w.in_ok-holds_without.field-0 = search rules in
          inr (subst (λ (sites : List Site). IsKeptBy question (without_all object sites)) (w.deref-else-len-lt2.ensures.value ∙ spare)
          (w.in_ok-holds_without.ensures holds))
    ] in
    all_alone question limit object alone each go
