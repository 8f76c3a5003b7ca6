-- What is asked of a condition holds exactly where its truth is the one that is wanted.
use Rattle.std.proofs.Common.{◌≡◌, ℕ, Bool, true, false, not, ◌&&◌, ◌||◌, Option, Some, None, nat_le, nat_lt, refl, sym, ap, ap₂, ◌∙◌, arith, inl, inr}
use Rattle.std.proofs.lemmas.Bool.Decides.{nat_tests}
use Rattle.std.proofs.lemmas.Bool.{cases_Bool}
use Rattle.conditions.specs.declared.cond.Comparison.{Comparison}
use Rattle.conditions.specs.declared.cond.Comparison.TheVariants.{Equal, NotEqual, Less, AtMost, Greater, AtLeast}
use Rattle.conditions.specs.Formulas.{Compared, Not, And, Or}
use Rattle.conditions.specs.Truth.{both_compared, compared, term_value}
use Rattle.conditions.specs.Statements.{SaysSo, both, compares_so, denied, either, is_that, opposite, told, truth}

twice_not : (b : Bool) → not (not b) ≡ b
twice_not true = refl
twice_not false = refl

other_order : (a b : ℕ) → nat_lt b a ≡ not (nat_le a b)
other_order a b = elim (cases_Bool (nat_le a b)) [
  | inl le ↦ let less : nat_lt b a ≡ false = grind (arith, nat_tests, le) in less ∙ sym (ap (λ (x : Bool). not x) le)
  | inr not_le ↦ let less : nat_lt b a ≡ true = grind (arith, nat_tests, not_le) in less ∙ sym (ap (λ (x : Bool). not x) not_le)
]

turned : (c : Comparison) (a b : ℕ) → compared (opposite c) a b ≡ not (compared c a b)
turned Equal a b = refl
turned NotEqual a b = sym (twice_not (compared Equal a b))
turned Less a b = sym (ap (λ (x : Bool). not x) (other_order b a) ∙ twice_not (nat_le b a))
turned AtMost a b = other_order a b
turned Greater a b = sym (ap (λ (x : Bool). not x) (other_order a b) ∙ twice_not (nat_le a b))
turned AtLeast a b = other_order b a

compared_so : (c : Comparison) (wanted : Bool) (x y : Option ℕ) → both_compared (compares_so wanted c) x y ≡ is_that (told c x y) wanted
compared_so c wanted None y = refl
compared_so c wanted (Some a) None = refl
compared_so c true (Some a) (Some b) = refl
compared_so c false (Some a) (Some b) = turned c a b

not_that : (t : Option Bool) (wanted : Bool) → is_that t (not wanted) ≡ is_that (denied t) wanted
not_that None wanted = refl
not_that (Some b) true = refl
not_that (Some b) false = sym (twice_not b)

both_true : (x y : Option Bool) → (is_that x true && is_that y true) ≡ is_that (both x y) true
both_true None None = refl
both_true None (Some true) = refl
both_true None (Some false) = refl
both_true (Some true) None = refl
both_true (Some true) (Some b) = refl
both_true (Some false) y = refl

both_false : (x y : Option Bool) → (is_that x false || is_that y false) ≡ is_that (both x y) false
both_false None None = refl
both_false None (Some true) = refl
both_false None (Some false) = refl
both_false (Some true) None = refl
both_false (Some true) (Some b) = refl
both_false (Some false) y = refl

either_true : (x y : Option Bool) → (is_that x true || is_that y true) ≡ is_that (either x y) true
either_true None None = refl
either_true None (Some true) = refl
either_true None (Some false) = refl
either_true (Some true) y = refl
either_true (Some false) None = refl
either_true (Some false) (Some true) = refl
either_true (Some false) (Some false) = refl

either_false : (x y : Option Bool) → (is_that x false && is_that y false) ≡ is_that (either x y) false
either_false None None = refl
either_false None (Some true) = refl
either_false None (Some false) = refl
either_false (Some true) y = refl
either_false (Some false) None = refl
either_false (Some false) (Some true) = refl
either_false (Some false) (Some false) = refl

pub says_so : SaysSo
says_so value wanted (Compared left c right) = compared_so c wanted (term_value value left) (term_value value right)
says_so value wanted (Not f) = says_so value (not wanted) f ∙ not_that (truth value f) wanted
says_so value true (And f g) = ap₂ (λ (x y : Bool). x && y) (says_so value true f) (says_so value true g) ∙ both_true (truth value f) (truth value g)
says_so value false (And f g) = ap₂ (λ (x y : Bool). x || y) (says_so value false f) (says_so value false g) ∙ both_false (truth value f) (truth value g)
says_so value true (Or f g) = ap₂ (λ (x y : Bool). x || y) (says_so value true f) (says_so value true g) ∙ either_true (truth value f) (truth value g)
says_so value false (Or f g) = ap₂ (λ (x y : Bool). x && y) (says_so value false f) (says_so value false g) ∙ either_false (truth value f) (truth value g)
