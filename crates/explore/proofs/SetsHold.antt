-- What sets of lists of numbers hold.
use Rattle.std.proofs.Common.{◌≡◌, ℕ, zero, suc, inl, inr, Bool, true, false, List, [], ◌∷◌, ◌++◌, refl, sym, subst, ◌∙◌, arith, true≢false}
use Rattle.std.proofs.lemmas.Bool.{cases_Bool}
use Rattle.std.proofs.lemmas.List.Elements.{Contains-append_left, Contains-push, Contains-push_cases}
use Rattle.std.specs.Prelude.{◌⊎◌, ◌↔◌, ◌||◌, Contains, nat_eq, if◌then◌else◌}
use Rattle.std.specs.List.{list_any}
use Rattle.std.specs.Cmp.Lexicographic.{bytes_decides, pointwise}
use Rattle.explore.specs.Sets.{included, included_all}

first_here : {A : Type 0} (x : A) (xs : List A) → Contains (x ∷ xs) x
first_here x xs = (zero, omega arith, refl)

later_here : {A : Type 0} (x y : A) (xs : List A) → Contains xs y → Contains (x ∷ xs) y
later_here x y xs (k, less, is) = (suc k, omega (arith, less), is)

either_here : {A : Type 0} (x y : A) (xs : List A) → Contains (x ∷ xs) y → (x ≡ y) ⊎ Contains xs y
either_here x y xs (zero, less, is) = inl is
either_here x y xs (suc k, less, is) = inr (k, omega (arith, less), is)

nothing_here : {A : Type 0} (x : A) → Contains [] x → ⊥
nothing_here x (k, less, is) = absurd (omega (arith, less))

pub any_has : (x : List ℕ) (xs : List (List ℕ)) → list_any (pointwise nat_eq x) xs ≡ true → Contains xs x
any_has x [] any = absurd (true≢false (sym any))
any_has x (y ∷ xs) any =
    elim (cases_Bool (pointwise nat_eq x y)) [
      | inl same ↦ subst (λ (z : List ℕ). Contains (y ∷ xs) z) (sym ((bytes_decides x y).0 same)) (first_here y xs)
      | inr other ↦ later_here y x xs (any_has x xs (rw other at any))
    ]

same_here : (x y : List ℕ) (b : Bool) → x ≡ y → pointwise nat_eq x y ≡ b → b ≡ true
same_here x y b same is = sym is ∙ (bytes_decides x y).1 same

pub has_any : (x : List ℕ) (xs : List (List ℕ)) → Contains xs x → list_any (pointwise nat_eq x) xs ≡ true
has_any x [] there = absurd (nothing_here x there)
has_any x (y ∷ xs) there =
    elim (either_here y x xs there) [
      | inl same ↦ let equal : pointwise nat_eq x y ≡ true = (bytes_decides x y).1 (sym same) in rw equal refl
      | inr later ↦ or_later (pointwise nat_eq x y) (list_any (pointwise nat_eq x) xs) (has_any x xs later)
    ]
  where
    or_later : (a b : Bool) → b ≡ true → (a || b) ≡ true
    or_later true b is = refl
    or_later false b is = is

flipped : (x y : List ℕ) → pointwise nat_eq y x ≡ pointwise nat_eq x y
flipped x y =
    elim (cases_Bool (pointwise nat_eq y x)) [
      | inl same ↦ same ∙ sym ((bytes_decides x y).1 (sym ((bytes_decides y x).0 same)))
      | inr other ↦ elim (cases_Bool (pointwise nat_eq x y)) [
        | inl same ↦ absurd (true≢false (sym ((bytes_decides y x).1 (sym ((bytes_decides x y).0 same))) ∙ other))
        | inr too ↦ other ∙ sym too
      ]
    ]

-- a list is among others, whichever is compared with which
pub any_is : (x : List ℕ) (xs : List (List ℕ)) → list_any (λ y. pointwise nat_eq y x) xs ≡ list_any (pointwise nat_eq x) xs
any_is x [] = refl
any_is x (y ∷ xs) = rw (flipped x y, any_is x xs) refl

-- ---- one more

included_by : (b : Bool) (xs : List (List ℕ)) (x z : List ℕ) → list_any (pointwise nat_eq x) xs ≡ b → Contains (if b then xs else xs ++ x ∷ []) z ↔ (Contains xs z ⊎ (x ≡ z))
included_by true xs x z is = (
  λ there. inl there,
  λ either. elim either [ inl there ↦ there | inr same ↦ subst (λ (y : List ℕ). Contains xs y) same (any_has x xs is) ],
)
included_by false xs x z is = (
  λ there. Contains-push_cases xs x z there,
  λ either. elim either [ inl there ↦ Contains-append_left xs (x ∷ []) z there | inr same ↦ subst (λ (y : List ℕ). Contains (xs ++ x ∷ []) y) same (Contains-push xs x) ],
)

pub included_has : (xs : List (List ℕ)) (x z : List ℕ) → Contains (included xs x) z ↔ (Contains xs z ⊎ (x ≡ z))
included_has xs x z = included_by (list_any (pointwise nat_eq x) xs) xs x z refl

-- and all of some
pub all_has : (ys xs : List (List ℕ)) (z : List ℕ) → Contains (included_all xs ys) z ↔ (Contains xs z ⊎ Contains ys z)
all_has [] xs z = (
  λ there. inl there,
  λ either. elim either [ inl there ↦ there | inr none ↦ absurd (nothing_here z none) ],
)
all_has (y ∷ ys) xs z = (
  λ there. elim ((all_has ys (included xs y) z).0 there) [
    | inl one ↦ elim ((included_has xs y z).0 one) [ inl before ↦ inl before | inr same ↦ inr (subst (λ (x : List ℕ). Contains (y ∷ ys) x) same (first_here y ys)) ]
    | inr later ↦ inr (later_here y z ys later)
  ],
  λ either. (all_has ys (included xs y) z).1 (elim either [
    | inl before ↦ inl ((included_has xs y z).1 (inl before))
    | inr there ↦ elim (either_here y z ys there) [ inl same ↦ inl ((included_has xs y z).1 (inr same)) | inr later ↦ inr later ]
  ]),
)

pub all_then : (ys zs xs : List (List ℕ)) → included_all xs (ys ++ zs) ≡ included_all (included_all xs ys) zs
all_then [] zs xs = refl
all_then (y ∷ ys) zs xs = all_then ys zs (included xs y)
