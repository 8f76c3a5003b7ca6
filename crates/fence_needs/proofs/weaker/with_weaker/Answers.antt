use Rattle.std.proofs.Common.{rules, ◌≡◌, List, [], ◌∷◌, sym, subst, ap, ◌∙◌}
use Rattle.std.proofs.lemmas.List.{nil_from_length}
use Rattle.image_reasons.specs.declared.entries.Site.{Site}
use Rattle.fence_needs.specs.declared.need.SiteNeed.{SiteNeed}
use Rattle.fence_needs.specs.Changes.{without_all}
use Rattle.fence_needs.specs.Needs.{left_out, what_stays}
use Rattle.fence_needs.proofs.WeakerOnesGoOn.{AreWeakenedSoFar, all_so_far, none_so_far, one_more_so_far, words_there}
use Rattle.fence_needs.proofs.weaker.with_weaker.Goals as goal

pub loop-one-init : goal.loop-one-init
loop-one-init g c =
    let question = c.args.question.now in
    let limit = c.args.limit in
    let object = c.args.object.now in
    let program = c.in_ok-program.program in
    let found = c.args.found.items in
    let spare : c.in_ok-spare.spare.items ≡ left_out found = c.in_ok-spare.ensures ∙ ap left_out c.deref.ensures.value in
    let is : program ≡ what_stays object found =
    c.in_ok-program.ensures ∙ ap (λ (sites : List Site). without_all object sites) (c.deref-2.ensures.value ∙ spare) in
    let so = none_so_far question limit object found program c.requires is in
    let none : c.in_ok-needs.needs.items ≡ [] = c.in_ok-needs.ensures.items in
    let rest : c.into_iter-one-iterator.result.rest.items ≡ found = search rules in
    subst (λ (needs : List SiteNeed). AreWeakenedSoFar question limit object program needs c.into_iter-one-iterator.result.rest.items) (sym none)
    (subst (λ (all : List SiteNeed). AreWeakenedSoFar question limit object program [] all) (sym rest) so)

pub weaker_in-requires : goal.weaker_in-requires
weaker_in-requires g c =
    let rest : c.loop-one.one-iterator.rest.items ≡ c.in-Some.one ∷ c.next.new.self.rest.items = search rules in
    let so =
    subst (λ (all : List SiteNeed). AreWeakenedSoFar c.args.question.now c.args.limit c.args.object.now c.loop-one.program c.loop-one.needs.items all) rest c.loop-one.invariant in
    words_there c.args.question.now c.args.limit c.args.object.now c.loop-one.program c.loop-one.needs.items c.next.new.self.rest.items c.in-Some.one
    c.processors-processors.ensures.loadable so

pub loop-one-preserved : goal.loop-one-preserved
loop-one-preserved g c =
    let question = c.args.question.now in
    let limit = c.args.limit in
    let object = c.args.object.now in
    let program = c.weaker_in.new.program in
    let behind = c.next.new.self.rest.items in
    let rest : c.loop-one.one-iterator.rest.items ≡ c.in-Some.one ∷ behind = search rules in
    let so = subst (λ (all : List SiteNeed). AreWeakenedSoFar question limit object c.loop-one.program c.loop-one.needs.items all) rest c.loop-one.invariant in
    let more =
    one_more_so_far question limit object c.loop-one.program program c.loop-one.needs.items behind c.in-Some.one c.in_ok-weaker.weaker so c.in_ok-weaker.ensures in
    subst (λ (needs : List SiteNeed). AreWeakenedSoFar question limit object program needs behind) (sym c.in_ok-push.ensures.items) more

pub loop-one-preserved-in_ok-push : goal.loop-one-preserved-in_ok-push
loop-one-preserved-in_ok-push g c =
    let question = c.args.question.now in
    let limit = c.args.limit in
    let object = c.args.object.now in
    let program = c.weaker_in.new.program in
    let behind = c.next.new.self.rest.items in
    let rest : c.loop-one.one-iterator.rest.items ≡ c.in-Some.one ∷ behind = search rules in
    let so = subst (λ (all : List SiteNeed). AreWeakenedSoFar question limit object c.loop-one.program c.loop-one.needs.items all) rest c.loop-one.invariant in
    let more =
    one_more_so_far question limit object c.loop-one.program program c.loop-one.needs.items behind c.in-Some.one c.in_ok-weaker.weaker so c.in_ok-weaker.ensures in
    subst (λ (needs : List SiteNeed). AreWeakenedSoFar question limit object program needs behind) (sym c.in_ok-push.ensures.items) more

pub loop-one-preserved-in_ok-push-2 : goal.loop-one-preserved-in_ok-push-2
loop-one-preserved-in_ok-push-2 g c =
    let question = c.args.question.now in
    let limit = c.args.limit in
    let object = c.args.object.now in
    let program = c.weaker_in.new.program in
    let behind = c.next.new.self.rest.items in
    let rest : c.loop-one.one-iterator.rest.items ≡ c.in-Some.one ∷ behind = search rules in
    let so = subst (λ (all : List SiteNeed). AreWeakenedSoFar question limit object c.loop-one.program c.loop-one.needs.items all) rest c.loop-one.invariant in
    let more =
    one_more_so_far question limit object c.loop-one.program program c.loop-one.needs.items behind c.in-Some.one c.in_ok-weaker.weaker so c.in_ok-weaker.ensures in
    subst (λ (needs : List SiteNeed). AreWeakenedSoFar question limit object program needs behind) (sym c.in_ok-push.ensures.items) more

pub returns : goal.returns
returns g c =
    let none : c.loop-one.one-iterator.rest.items ≡ [] = nil_from_length c.loop-one.one-iterator.rest.items (search rules) in
    all_so_far c.args.question.now c.args.limit c.args.object.now c.loop-one.program c.loop-one.needs.items
    (subst (λ (all : List SiteNeed). AreWeakenedSoFar c.args.question.now c.args.limit c.args.object.now c.loop-one.program c.loop-one.needs.items all) none c.loop-one.invariant)
