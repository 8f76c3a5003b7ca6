use Rattle.std.proofs.Common.{rules, ◌≡◌, ◌∙◌, ◌+◌, ◌-◌, ◌/◌, ◌≤◌, ℕ, Bool, List, [], ◌∷◌, length, ap, arith, sym, subst, true}
use Rattle.std.specs.List.{All}
use Rattle.std.proofs.lemmas.List.Elements.{All-cons, All-nil}
use Rattle.choices.specs.Choices.{is_within}
use Rattle.choices.proofs.Above.{within_itself}
use Rattle.mends.specs.Searches.{IsBound}
use Rattle.mends.proofs.Bounds.{IsRange, above_both, halves_are_ranges, rest_are_ranges}
use Rattle.mends.proofs.bound.bound_from.Goals as goal
use Rattle.mends.proofs.bound.bound_from.Goals.{then-branch, else-branch, then-to-from-gt1+in_ok-push-2+in_ok-push-3, else-to-from-gt1}

pub loop-init : goal.loop-init
loop-init c =
    let choice = c.args.choice.now in
    let task = c.args.task.now in
    let count = length choice in
    let same : c.in_ok-bound.bound.items ≡ choice = search rules in
    let one : c.push.new.self.items ≡ (0, count) ∷ [] = search rules in record {
      broken = subst (λ (flags : List Bool). IsBound task.question.now task.object.now flags) (sym same) c.requires.broken;
      within = subst (λ (flags : List Bool). is_within choice flags ≡ true) (sym same) (within_itself choice);
      ranges = subst (λ (xs : List (ℕ × ℕ)). All (IsRange count) xs) (sym one) (All-cons (IsRange count) (0, count) [] (omega arith, omega arith) (All-nil (IsRange count)));
    }

pub with_range-requires : goal.with_range-requires
with_range-requires c =
    let popped = rest_are_ranges (length c.args.choice.now) c.loop.ranges.items c.pop.new.self.items c.in-Some.from c.in-Some.to c.in-Some.ensures.items c.loop.invariant.ranges in
    let here : c.in-Some.to ≤ length c.args.choice.now = popped.1.1 in
    let same : length c.deref.result.now ≡ length c.args.choice.now =
    ap (λ (flags : List Bool). length flags) c.deref.ensures.value ∙ c.loop.invariant.broken.is_choice ∙ sym c.requires.broken.is_choice in
    omega (arith, here, same)

pub is_broken-requires-clause-more : goal.is_broken-requires-clause-more
is_broken-requires-clause-more c =
    ap (λ (flags : List Bool). length flags) c.deref-in-loop.ensures.value ∙ c.in_ok-more.ensures.length ∙ ap (λ (flags : List Bool). length flags) c.deref.ensures.value
    ∙ c.loop.invariant.broken.is_choice

pub overflow_sub-to : goal.overflow_sub-to
overflow_sub-to c =
    let popped = rest_are_ranges (length c.args.choice.now) c.loop.ranges.items c.pop.new.self.items c.in-Some.from c.in-Some.to c.in-Some.ensures.items c.loop.invariant.ranges in
    popped.1.0

pub loop-preserved : goal.loop-preserved
loop-preserved c =
    let choice = c.args.choice.now in
    let question = c.args.task.now.question.now in
    let object = c.args.task.now.object.now in
    let count = length choice in
    let inv = c.loop.invariant in
    let from = c.in-Some.from in
    let to = c.in-Some.to in
    let more = c.in_ok-more.more.items in
    let popped = rest_are_ranges count c.loop.ranges.items c.pop.new.self.items from to c.in-Some.ensures.items inv.ranges in
    elim c.if-branch.branch [
      | then-branch w ↦
          let is_broken : IsBound question object more =
          subst (λ (flags : List Bool). IsBound question object flags) c.deref-in-loop.ensures.value (c.in_ok-is_broken.ensures w.if-branch.true) in
          let old_value = c.deref.ensures.value in
          let same_length : length more ≡ length c.loop.bound.items = c.in_ok-more.ensures.length ∙ ap (λ (flags : List Bool). length flags) old_value in
          let above : is_within c.loop.bound.items more ≡ true = subst (λ (flags : List Bool). is_within flags more ≡ true) old_value c.in_ok-more.ensures.within in
          let now : c.if-branch.bound.items ≡ more = ap (λ v. v.items) w.bound-is in record {
            broken = subst (λ (flags : List Bool). IsBound question object flags) (sym now) is_broken;
            within = subst (λ (flags : List Bool). is_within choice flags ≡ true) (sym now)
                (above_both question object choice c.loop.bound.items more c.requires.broken inv.broken same_length inv.within above);
            ranges = subst (λ (xs : List (ℕ × ℕ)). All (IsRange count) xs) (sym (ap (λ v. v.items) w.ranges-is)) popped.0;
          }
      | else-branch w ↦
          let now : c.if-branch.bound.items ≡ c.loop.bound.items = ap (λ v. v.items) w.bound-is in
          let all : All (IsRange count) w.if-to-from-gt1.ranges.items =
          elim w.if-to-from-gt1.branch [
            | then-to-from-gt1+in_ok-push-2+in_ok-push-3 w' ↦
                subst (λ (xs : List (ℕ × ℕ)). All (IsRange count) xs) (sym (ap (λ v. v.items) w'.ranges-is))
                (halves_are_ranges count from to (from + (to - from) / 2) c.pop.new.self.items _ _ popped.0 (omega arith) (omega (arith, popped.1.0)) popped.1.1
                w'.in_ok-push-2.ensures.items w'.in_ok-push-3.ensures.items)
            | else-to-from-gt1 w' ↦ subst (λ (xs : List (ℕ × ℕ)). All (IsRange count) xs) (sym (ap (λ v. v.items) w'.ranges-is)) popped.0
          ] in record {
            broken = subst (λ (flags : List Bool). IsBound question object flags) (sym now) inv.broken;
            within = subst (λ (flags : List Bool). is_within choice flags ≡ true) (sym now) inv.within;
            ranges = subst (λ (xs : List (ℕ × ℕ)). All (IsRange count) xs) (sym (ap (λ v. v.items) w.ranges-is)) all;
          }
    ]

pub returns-clause-broken : goal.returns-clause-broken
returns-clause-broken c = c.loop.invariant.broken

pub returns-clause-within : goal.returns-clause-within
returns-clause-within c = c.loop.invariant.within
