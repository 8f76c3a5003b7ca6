-- Sorting conditions changes nothing of what all of them say.
use Rattle.std.proofs.Common.{◌≡◌, ◌∙◌, ℕ, Bool, true, false, Option, Some, None, List, [], ◌∷◌, ◌++◌, refl, sym, ap, ap₂}
use Rattle.std.specs.Prelude.{◌&&◌, ◌||◌}
use Rattle.std.specs.List.{list_all, list_any}
use Rattle.std.proofs.lemmas.List.Folds.{list_all-append, list_any-append}
use Rattle.conditions.specs.declared.cond.Operand.{Operand}
use Rattle.conditions.specs.Terms.{Term}
use Rattle.conditions.specs.Formulas.{Formula}
use Rattle.conditions.specs.Truth.{holds_by}
use Rattle.conditions.specs.Conjuncts.{AreConjuncts, tests}
use Rattle.explore.specs.Apart.{AreOf, IsSortedIn, both, with_more}

-- ---- each says as much as before, and one more

all_last : (p : Formula → Bool) (xs : List Formula) (f : Formula) (a : Bool) → a ≡ list_all p xs → (a && p f) ≡ list_all p (xs ++ f ∷ [])
all_last p xs f a e = ap₂ (λ (x y : Bool). x && y) e (sym (alone (p f))) ∙ sym (list_all-append p xs (f ∷ []))
  where
    alone : (b : Bool) → (b && true) ≡ b
    alone true = refl
    alone false = refl

any_last : (p : Formula → Bool) (xs : List Formula) (f : Formula) (a : Bool) → a ≡ list_any p xs → (a || p f) ≡ list_any p (xs ++ f ∷ [])
any_last p xs f a e = ap₂ (λ (x y : Bool). x || y) e (sym (alone (p f))) ∙ sym (list_any-append p xs (f ∷ []))
  where
    alone : (b : Bool) → (b || false) ≡ b
    alone true = refl
    alone false = refl

all_put : (a b : Bool) → (a && b) ≡ (b && a)
all_put true true = refl
all_put true false = refl
all_put false true = refl
all_put false false = refl

any_put : (a b : Bool) → (a || b) ≡ (b || a)
any_put true true = refl
any_put true false = refl
any_put false true = refl
any_put false false = refl

all_between : (a b c : Bool) → ((a && b) && c) ≡ ((a && c) && b)
all_between true b c = all_put b c
all_between false b c = refl

any_between : (a b c : Bool) → ((a || b) || c) ≡ ((a || c) || b)
any_between true b c = refl
any_between false b c = any_put b c

all_behind : (a b c : Bool) → (a && (b && c)) ≡ ((a && b) && c)
all_behind true b c = refl
all_behind false b c = refl

any_behind : (a b c : Bool) → (a || (b || c)) ≡ ((a || b) || c)
any_behind true b c = refl
any_behind false b c = refl

all_first : (value : Operand → Option ℕ) (persisted others : Option Formula) (f : Formula)
    → list_all (holds_by value) (both (Some (with_more persisted f)) others) ≡ (list_all (holds_by value) (both persisted others) && holds_by value f)
all_first value None others f = all_put (holds_by value f) (list_all (holds_by value) (both None others))
all_first value (Some g) others f = all_between (holds_by value g) (holds_by value f) (list_all (holds_by value) (both None others))

any_first : (among : Term → Bool) (persisted others : Option Formula) (f : Formula)
    → list_any (tests among) (both (Some (with_more persisted f)) others) ≡ (list_any (tests among) (both persisted others) || tests among f)
any_first among None others f = any_put (tests among f) (list_any (tests among) (both None others))
any_first among (Some g) others f = any_between (tests among g) (tests among f) (list_any (tests among) (both None others))

all_alone : (value : Operand → Option ℕ) (others : Option Formula) (f : Formula)
    → list_all (holds_by value) (both None (Some (with_more others f))) ≡ (list_all (holds_by value) (both None others) && holds_by value f)
all_alone value None f = all_put (holds_by value f) true
all_alone value (Some h) f = all_between (holds_by value h) (holds_by value f) true

any_alone : (among : Term → Bool) (others : Option Formula) (f : Formula)
    → list_any (tests among) (both None (Some (with_more others f))) ≡ (list_any (tests among) (both None others) || tests among f)
any_alone among None f = any_put (tests among f) false
any_alone among (Some h) f = any_between (tests among h) (tests among f) false

all_second : (value : Operand → Option ℕ) (persisted others : Option Formula) (f : Formula)
    → list_all (holds_by value) (both persisted (Some (with_more others f))) ≡ (list_all (holds_by value) (both persisted others) && holds_by value f)
all_second value None others f = all_alone value others f
all_second value (Some g) others f =
    ap (λ (a : Bool). holds_by value g && a) (all_alone value others f) ∙ all_behind (holds_by value g) (list_all (holds_by value) (both None others)) (holds_by value f)

any_second : (among : Term → Bool) (persisted others : Option Formula) (f : Formula)
    → list_any (tests among) (both persisted (Some (with_more others f))) ≡ (list_any (tests among) (both persisted others) || tests among f)
any_second among None others f = any_alone among others f
any_second among (Some g) others f =
    ap (λ (a : Bool). tests among g || a) (any_alone among others f) ∙ any_behind (tests among g) (list_any (tests among) (both None others)) (tests among f)

-- ---- the sorts

pub none_are : (persisted others : Option Formula) → persisted ≡ None → others ≡ None → AreOf (both persisted others) []
none_are persisted others none empty = record {
  same = λ value. ap₂ (λ (a b : Option Formula). list_all (holds_by value) (both a b)) none empty;
  within = λ among. ap₂ (λ (a b : Option Formula). list_any (tests among) (both a b)) none empty;
}

pub persisted_are : (persisted others : Option Formula) (f : Formula) → IsSortedIn f persisted others (Some (with_more persisted f)) others
persisted_are persisted others f xs are = record {
  same = λ value. all_first value persisted others f ∙ all_last (holds_by value) xs f (list_all (holds_by value) (both persisted others)) (are.same value);
  within = λ among. any_first among persisted others f ∙ any_last (tests among) xs f (list_any (tests among) (both persisted others)) (are.within among);
}

pub others_are : (persisted others : Option Formula) (f : Formula) → IsSortedIn f persisted others persisted (Some (with_more others f))
others_are persisted others f xs are = record {
  same = λ value. all_second value persisted others f ∙ all_last (holds_by value) xs f (list_all (holds_by value) (both persisted others)) (are.same value);
  within = λ among. any_second among persisted others f ∙ any_last (tests among) xs f (list_any (tests among) (both persisted others)) (are.within among);
}

pub sorted_conjuncts : (parts sorted : List Formula) (whole : Formula) → AreOf sorted parts → AreConjuncts parts whole → AreConjuncts sorted whole
sorted_conjuncts parts sorted whole are conjuncts = record {
  same = λ value. are.same value ∙ conjuncts.same value;
  within = λ among any. conjuncts.within among (sym (are.within among) ∙ any);
}
