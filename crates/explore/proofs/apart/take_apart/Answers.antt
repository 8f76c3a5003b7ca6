use Rattle.std.proofs.Common.{rules, ◌≡◌, Some, List, [], ◌∷◌, ap₂, refl, subst, sym}
use Rattle.conditions.specs.Conjuncts.{AreConjuncts}
use Rattle.conditions.specs.Formulas.{Formula}
use Rattle.explore.specs.Apart.{both}
use Rattle.explore.proofs.SortedParts.{sorted_conjuncts}
use Rattle.explore.proofs.apart.take_apart.Goals as goal

pub returns : goal.returns
returns c =
    let whole = c.in-Some.cond.now in
    let found = c.in-Some-2.field-0 in
    let sorted = rw c.in-Some-2.is at c.in_ok-persisted.ensures in
    let one : found.persisted ≡ Some c.in-Some-persisted.together = search rules in
    let two : found.others ≡ Some c.in-Some-others.rest = search rules in
    let said : both found.persisted found.others ≡ c.in-Some-persisted.together ∷ c.in-Some-others.rest ∷ [] = ap₂ both one two in
    let parts = subst (λ (fs : List Formula). AreConjuncts fs whole) (sym c.deref.ensures.value) c.in_ok-parts.ensures.conjuncts in record {
      whole = whole;
      asked = sym c.in-Some.ensures;
      one = c.in-Some-persisted.together;
      two = c.in-Some-others.rest;
      conjuncts = subst (λ (fs : List Formula). AreConjuncts fs whole) said (sorted_conjuncts c.deref.result.now (both found.persisted found.others) whole sorted parts);
      first_asks = c.in_ok-with_all.ensures;
      other_asks = refl;
    }
