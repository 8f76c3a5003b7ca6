use Rattle.std.proofs.Common.{rules, ◌≡◌, List, [], ◌∷◌, sym, subst}
use Rattle.std.proofs.lemmas.List.{nil_from_length}
use Rattle.fence_needs.specs.declared.need.SiteNeed.{SiteNeed}
use Rattle.fence_needs.proofs.NeedsGoOn.{AreFoundSoFar, all_found, first_alone, one_more_found}
use Rattle.fence_needs.proofs.one_by_one.one_by_one.Goals as goal

pub need_behind-requires : goal.need_behind-requires
need_behind-requires g c =
    let rest : c.loop-one.one-iterator.rest.items ≡ c.in-Some.one ∷ c.next.new.self.rest.items = search rules in
    let found = subst (AreFoundSoFar c.args.question.now c.args.limit c.args.object.now c.loop-one.left c.loop-one.needs.items) rest c.loop-one.invariant in
    first_alone c.args.question.now c.args.limit c.args.object.now c.loop-one.left c.loop-one.needs.items c.next.new.self.rest.items c.in-Some.one found

pub loop-one-preserved : goal.loop-one-preserved
loop-one-preserved g c =
    let rest : c.loop-one.one-iterator.rest.items ≡ c.in-Some.one ∷ c.next.new.self.rest.items = search rules in
    let left = c.need_behind.new.left in
    let behind = c.next.new.self.rest.items in
    let found = subst (AreFoundSoFar c.args.question.now c.args.limit c.args.object.now c.loop-one.left c.loop-one.needs.items) rest c.loop-one.invariant in
    let more =
    one_more_found c.args.question.now c.args.limit c.args.object.now c.loop-one.left left c.loop-one.needs.items behind c.in-Some.one c.in_ok-need.need
    found c.in_ok-need.ensures in
    subst (λ (needs : List SiteNeed). AreFoundSoFar c.args.question.now c.args.limit c.args.object.now left needs behind) (sym c.in_ok-push.ensures.items) more

pub loop-one-preserved-in_ok-push : goal.loop-one-preserved-in_ok-push
loop-one-preserved-in_ok-push g c =
    let rest : c.loop-one.one-iterator.rest.items ≡ c.in-Some.one ∷ c.next.new.self.rest.items = search rules in
    let left = c.need_behind.new.left in
    let behind = c.next.new.self.rest.items in
    let found = subst (AreFoundSoFar c.args.question.now c.args.limit c.args.object.now c.loop-one.left c.loop-one.needs.items) rest c.loop-one.invariant in
    let more =
    one_more_found c.args.question.now c.args.limit c.args.object.now c.loop-one.left left c.loop-one.needs.items behind c.in-Some.one c.in_ok-need.need
    found c.in_ok-need.ensures in
    subst (λ (needs : List SiteNeed). AreFoundSoFar c.args.question.now c.args.limit c.args.object.now left needs behind) (sym c.in_ok-push.ensures.items) more

pub loop-one-preserved-in_ok-push-2 : goal.loop-one-preserved-in_ok-push-2
loop-one-preserved-in_ok-push-2 g c =
    let rest : c.loop-one.one-iterator.rest.items ≡ c.in-Some.one ∷ c.next.new.self.rest.items = search rules in
    let left = c.need_behind.new.left in
    let behind = c.next.new.self.rest.items in
    let found = subst (AreFoundSoFar c.args.question.now c.args.limit c.args.object.now c.loop-one.left c.loop-one.needs.items) rest c.loop-one.invariant in
    let more =
    one_more_found c.args.question.now c.args.limit c.args.object.now c.loop-one.left left c.loop-one.needs.items behind c.in-Some.one c.in_ok-need.need
    found c.in_ok-need.ensures in
    subst (λ (needs : List SiteNeed). AreFoundSoFar c.args.question.now c.args.limit c.args.object.now left needs behind) (sym c.in_ok-push.ensures.items) more

pub returns : goal.returns
returns g c =
    let none : c.loop-one.one-iterator.rest.items ≡ [] = nil_from_length c.loop-one.one-iterator.rest.items (search rules) in
    all_found c.args.question.now c.args.limit c.args.object.now c.loop-one.left c.loop-one.needs.items
    (subst (AreFoundSoFar c.args.question.now c.args.limit c.args.object.now c.loop-one.left c.loop-one.needs.items) none c.loop-one.invariant)
