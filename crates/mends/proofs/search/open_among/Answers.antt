use Rattle.std.proofs.Common.{◌≡◌, ◌∙◌, Bool, List, ap, arith, false, sym, subst}
use Rattle.std.proofs.lemmas.List.Elements.{All-more}
use Rattle.choices.specs.Choices.{is_within}
use Rattle.mends.specs.declared.outcome.Open.{Open}
use Rattle.mends.proofs.MoreWithin.{not_left_open}
use Rattle.mends.proofs.search.open_among.Goals as goal

pub loop-place-preserved : goal.loop-place-preserved
loop-place-preserved c =
    let choice = c.args.choice.now in
    let one = c.index-untold-place.result in
    let here : is_within choice one.choice.items ≡ false =
    ap (λ (flags : List Bool). is_within choice flags) (sym c.deref.ensures.value) ∙ sym c.is_within.ensures ∙ c.if-is_within.false in
    All-more (λ (o : Open). is_within choice o.choice.items ≡ false) c.args.untold.now c.loop-place.place one c.loop-place-test.true c.loop-place.invariant
    (subst (λ (o : Open). is_within choice o.choice.items ≡ false) c.index-untold-place.is here)

pub returns : goal.returns
returns c left = not_left_open c.args.untold.now c.args.choice.now c.loop-place.place (omega (arith, c.loop-place-test.false)) c.loop-place.invariant left
