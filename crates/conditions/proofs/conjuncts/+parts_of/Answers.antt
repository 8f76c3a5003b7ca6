use Rattle.std.proofs.Common.{◌≡◌, ◌∙◌, List, ap, ap₂, subst, sym}
use Rattle.conditions.specs.Conjuncts.{AreConjuncts, claimed}
use Rattle.conditions.specs.declared.tree.Node.{Node}
use Rattle.conditions.specs.Formulas.{Formula, And, Or, formula}
use Rattle.conditions.proofs.TakenApart.{and_claimed, or_claimed}
use Rattle.conditions.proofs.conjuncts.+parts_of.Goals as goal

pub returns-in-Some-clause-conjuncts : goal.returns-in-Some-clause-conjuncts
returns-in-Some-clause-conjuncts t c =
    let f = formula c.deref-in-And.result.now in
    let g = formula c.deref-in-And-2.result.now in
    let whole : formula c.args.node.now ≡ And f g = ap formula c.in-And.is ∙ ap₂ (λ (x y : Node). And (formula x) (formula y)) (sym c.deref-in-And.ensures) (sym c.deref-in-And-2.ensures) in
    let made = rw c.in-Some.is at c.in_ok-parts-in-And.ensures.parts in
    subst (λ (h : Formula). AreConjuncts c.in-Some.parts.items (claimed c.args.wanted h)) (sym whole)
    (subst (λ (ps : List Formula). AreConjuncts ps (claimed c.args.wanted (And f g))) (sym made)
    (and_claimed c.args.wanted f g c.in_ok-ones-in-And.ones.items c.in_ok-others-in-And.others.items c.in_ok-ones-in-And.ensures.conjuncts c.in_ok-others-in-And.ensures.conjuncts))

pub returns-in-Some-2-clause-conjuncts : goal.returns-in-Some-2-clause-conjuncts
returns-in-Some-2-clause-conjuncts t c =
    let f = formula c.deref-in-Or.result.now in
    let g = formula c.deref-in-Or-2.result.now in
    let whole : formula c.args.node.now ≡ Or f g = ap formula c.in-Or.is ∙ ap₂ (λ (x y : Node). Or (formula x) (formula y)) (sym c.deref-in-Or.ensures) (sym c.deref-in-Or-2.ensures) in
    let made = rw c.in-Some-2.is at c.in_ok-parts-in-Or.ensures.parts in
    subst (λ (h : Formula). AreConjuncts c.in-Some-2.parts.items (claimed c.args.wanted h)) (sym whole)
    (subst (λ (ps : List Formula). AreConjuncts ps (claimed c.args.wanted (Or f g))) (sym made)
    (or_claimed c.args.wanted f g c.in_ok-ones-in-Or.ones.items c.in_ok-others-in-Or.others.items c.in_ok-ones-in-Or.ensures.conjuncts c.in_ok-others-in-Or.ensures.conjuncts))
