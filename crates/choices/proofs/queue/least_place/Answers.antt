use Rattle.std.proofs.Common.{Bool, List, ◌≡◌, ap, arith, sym, subst, ◌∙◌, ◌<◌, ◌+◌, ℕ, length}
use Rattle.choices.specs.Choices.{comes_before}
use Rattle.choices.proofs.Waited.{LeastOf, first_is_least, keeps, least_of_all, takes}
use Rattle.choices.proofs.queue.least_place.Goals as goal
use Rattle.choices.proofs.queue.least_place.Goals.{then-comes_before, else-comes_before}

pub loop-place-init : goal.loop-place-init
loop-place-init c = record { within = c.requires.some; least = first_is_least c.args.costs.now c.args.queue.now c.requires.some }

pub loop-place-preserved : goal.loop-place-preserved
loop-place-preserved c =
    let costs = c.args.costs.now in
    let queue = c.args.queue.now in
    let x = c.index-queue-place.result in
    let y = c.index-queue-least.result in
    let told : c.comes_before.result ≡ comes_before costs x.items y.items = c.comes_before.ensures ∙ ap (λ (zs : List Bool). comes_before costs zs c.deref-in-loop-place.result.now) c.deref.ensures.value
    ∙ ap (λ (zs : List Bool). comes_before costs x.items zs) c.deref-in-loop-place.ensures.value in
    let inv = c.loop-place.invariant in
    elim c.if-comes_before.branch [
      | then-comes_before w ↦
          record {
            within = subst (λ (n : ℕ). n < length queue) (sym w.least-is) c.loop-place-test.true;
            least = subst (λ (n : ℕ). LeastOf costs queue (c.loop-place.place + 1) n) (sym w.least-is)
                (takes costs queue c.loop-place.place c.loop-place.least x y c.loop-place-test.true inv.within c.index-queue-place.is c.index-queue-least.is inv.least (sym told ∙ w.if-comes_before.true));
          }
      | else-comes_before w ↦
          record {
            within = subst (λ (n : ℕ). n < length queue) (sym w.least-is) inv.within;
            least = subst (λ (n : ℕ). LeastOf costs queue (c.loop-place.place + 1) n) (sym w.least-is)
                (keeps costs queue c.loop-place.place c.loop-place.least x y c.loop-place-test.true inv.within c.index-queue-place.is c.index-queue-least.is inv.least (sym told ∙ w.if-comes_before.false));
          }
    ]

pub returns : goal.returns
returns c = (
  c.loop-place.invariant.within,
  least_of_all c.args.costs.now c.args.queue.now c.loop-place.least c.loop-place.place (omega (arith, c.loop-place-test.false)) c.loop-place.invariant.least,
)
