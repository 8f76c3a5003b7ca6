use Rattle.std.proofs.Common.{◌≡◌, ◌+◌, ◌*◌, ◌≤◌, ℕ, Bool, true, List, length, ap, arith, sym, subst, ◌∙◌}
use Rattle.std.specs.Prelude.{Contains}
use Rattle.std.specs.Global.{Vec}
use Rattle.std.proofs.lemmas.List.{length-set}
use Rattle.choices.specs.Choices.{with_one}
use Rattle.choices.specs.Waiting.{AreChoices, weight, weight_of}
use Rattle.choices.proofs.SpreadByPlace.{Above, above_more, above_still, all_spread}
use Rattle.choices.proofs.Waited.{lighter, not_taken, weighs, weighs_still}
use Rattle.choices.proofs.queue.spread.Goals as goal
use Rattle.choices.proofs.queue.spread.Goals.{then-not-bound-place+in_ok-with_one+in_ok-put, else-not-bound-place}

pub loop-place-preserved : goal.loop-place-preserved
loop-place-preserved c =
    let choice = c.args.choice.now in
    let bound = c.args.bound.now in
    let old = c.loop-place.queue.items in
    let new = c.if-not-bound-place.queue.items in
    let begin = c.args.queue.now.items in
    let place = c.loop-place.place in
    let inv = c.loop-place.invariant in
    let n = length choice + 1 in
    elim c.if-not-bound-place.branch [
      | then-not-bound-place+in_ok-with_one+in_ok-put w ↦
          let put = w.in_ok-put.ensures in
          let one = w.in_ok-with_one.field-0 in
          let is_one : one.items ≡ with_one place choice = w.in_ok-with_one.ensures in
          let more = w.put.new.queue.items in
          let same : new ≡ more = ap (λ v. v.items) w.queue-is in
          let within = c.loop-place-test.true in
          let out = not_taken choice bound place c.requires.within c.requires.bound within w.if-not-bound-place.true in
          let long : length one.items ≡ length choice = ap (λ (zs : List Bool). length zs) is_one ∙ length-set choice place true in
          let light : n * weight_of one.items ≡ weight_of choice = ap (λ (zs : List Bool). n * weight_of zs) is_one ∙ lighter choice place within out in record {
            choices = subst (λ (zs : List (Vec Bool)). AreChoices (length choice) zs) (sym same) (subst (λ (k : ℕ). AreChoices k more) long put.choices);
            kept = λ other there. subst (λ (zs : List (Vec Bool)). Contains zs other) (sym same) (put.kept other (inv.kept other there));
            above = subst (λ (zs : List (Vec Bool)). Above choice bound zs (place + 1)) (sym same) (above_more choice bound old more place one is_one put inv.above);
            weight = subst (λ (zs : List (Vec Bool)). n * weight zs ≤ n * weight begin + (place + 1) * weight_of choice) (sym same)
                (weighs n (weight old) (weight more) (weight begin) place (weight_of one.items) (weight_of choice) light put.weight inv.weight);
          }
      | else-not-bound-place w ↦
          let same = ap (λ v. v.items) w.queue-is in record {
            choices = subst (λ (zs : List (Vec Bool)). AreChoices (length choice) zs) (sym same) inv.choices;
            kept = λ other there. subst (λ (zs : List (Vec Bool)). Contains zs other) (sym same) (inv.kept other there);
            above = subst (λ (zs : List (Vec Bool)). Above choice bound zs (place + 1)) (sym same) (above_still choice bound old place w.if-not-bound-place.false inv.above);
            weight = subst (λ (zs : List (Vec Bool)). n * weight zs ≤ n * weight begin + (place + 1) * weight_of choice) (sym same)
                (weighs_still n (weight old) (weight begin) place (weight_of choice) inv.weight);
          }
    ]

pub returns-clause-spread : goal.returns-clause-spread
returns-clause-spread c =
    let inv = c.loop-place.invariant in
    all_spread c.args.choice.now c.args.bound.now c.args.queue.now.items c.loop-place.queue.items c.loop-place.place c.requires.bound c.loop-place.auto.place-end
    (omega (arith, c.loop-place-test.false)) inv.kept inv.above inv.weight
