use Rattle.std.proofs.Common.{ℕ, ◌≡◌, ◌++◌, ◌∷◌, [], List, ap, arith, length, ◌∙◌}
use Rattle.explore.specs.Found.{Link}
use Rattle.explore.proofs.LinksKept.{kept_more}
use Rattle.explore.proofs.links.Links.push.Goals as goal

pub invariant_of-self-2 : goal.invariant_of-self-2
invariant_of-self-2 c =
    let ps = c.self.inside.parents.items in
    let ends = c.self.inside.ends.items in
    let steps = c.self.inside.steps.items in
    let all = c.extend_from_slice.new.self.items in
    let number : c.in-Ok.number ≡ c.args.parent = omega arith in
    let count : c.len.result ≡ length all = omega arith in
    let is : c.push_reserved-2.new.self.items ≡ ps ++ c.args.parent ∷ [] = c.push_reserved-2.ensures.items ∙ (λ k. c.in_ok-reserve.ensures.items k ++ number k ∷ []) in
    let ended : c.push_reserved.new.self.items ≡ ends ++ length all ∷ [] = c.push_reserved.ensures.items ∙ (λ k. c.in_ok-reserve-2.ensures.items k ++ count k ∷ []) in
    let kept = kept_more ps ends c.push_reserved-2.new.self.items c.push_reserved.new.self.items steps c.args.steps.now all c.args.parent c.self.invariant.0 c.self.invariant.1 is c.in_ok-extend_from_slice.ensures.items ended in
    kept.0

pub returns : goal.returns
returns c =
    let ps = c.self.inside.parents.items in
    let ends = c.self.inside.ends.items in
    let steps = c.self.inside.steps.items in
    let all = c.extend_from_slice.new.self.items in
    let number : c.in-Ok.number ≡ c.args.parent = omega arith in
    let count : c.len.result ≡ length all = omega arith in
    let is : c.push_reserved-2.new.self.items ≡ ps ++ c.args.parent ∷ [] = c.push_reserved-2.ensures.items ∙ (λ k. c.in_ok-reserve.ensures.items k ++ number k ∷ []) in
    let ended : c.push_reserved.new.self.items ≡ ends ++ length all ∷ [] = c.push_reserved.ensures.items ∙ (λ k. c.in_ok-reserve-2.ensures.items k ++ count k ∷ []) in
    let kept = kept_more ps ends c.push_reserved-2.new.self.items c.push_reserved.new.self.items steps c.args.steps.now all c.args.parent c.self.invariant.0 c.self.invariant.1 is c.in_ok-extend_from_slice.ensures.items ended in
    kept.1 ∙ ap (λ (links : List Link). links ++ record { parent = c.args.parent; steps = c.args.steps.now } ∷ []) c.self.view_is
