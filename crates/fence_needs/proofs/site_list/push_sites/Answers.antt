use Rattle.std.proofs.Common.{◌≡◌, ◌<◌, [], ◌∷◌, ◌++◌, true, false, List, get_or, take, length, append_assoc, sym, ap, subst, ◌∙◌, arith}
use Rattle.isa.specs.declared.instr.Instr.{Instr}
use Rattle.fence_needs.specs.Sites.{is_fence, sites_in}
use Rattle.image_reasons.specs.declared.entries.Site.{Site}
use Rattle.fence_needs.proofs.SitesByPlace.{site_added, site_passed_over}
use Rattle.fence_needs.proofs.site_list.push_sites.Goals as goal
use Rattle.fence_needs.proofs.site_list.push_sites.Goals.{then-is_fence+in_ok-push, else-is_fence}

pub loop-place-preserved : goal.loop-place-preserved
loop-place-preserved c =
    let code = c.args.code.now in
    let at = c.loop-place.place in
    let instr = c.instr-item.result in
    let old = c.args.sites.now.items in
    let before = sites_in c.args.processor c.args.recovering (take at code) in
    let here : Site = record { processor = c.args.processor; recovering = c.args.recovering; place = at } in
    let same = c.instructions-instr-items.ensures.value in
    let within : at < length code = subst (λ (xs : List Instr). at < length xs) same (omega arith) in
    let read : get_or code at instr ≡ instr = sym (c.instr-item.is ∙ ap (λ (xs : List Instr). get_or xs at instr) same) in
    elim c.if-is_fence.branch [
      | then-is_fence+in_ok-push w ↦
          let fence : is_fence (get_or code at instr) ≡ true = ap is_fence read ∙ sym c.is_fence.ensures ∙ w.if-is_fence.true in
          let more = site_added c.args.processor c.args.recovering code at instr within fence in
          ap (λ v. v.items) w.sites-is ∙ w.in_ok-push.ensures.items ∙ ap (λ (xs : List Site). xs ++ here ∷ []) c.loop-place.invariant
          ∙ append_assoc old before (here ∷ []) ∙ ap (λ (xs : List Site). old ++ xs) (sym more)
      | else-is_fence w ↦
          let other : is_fence (get_or code at instr) ≡ false = ap is_fence read ∙ sym c.is_fence.ensures ∙ w.if-is_fence.false in
          let passed = site_passed_over c.args.processor c.args.recovering code at instr within other in
          ap (λ v. v.items) w.sites-is ∙ c.loop-place.invariant ∙ ap (λ (xs : List Site). old ++ xs) (sym passed)
    ]
