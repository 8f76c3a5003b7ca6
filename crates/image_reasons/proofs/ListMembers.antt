-- What is in a list that was made of another.
use Rattle.std.proofs.Common.{◌≡◌, ℕ, zero, suc, ◌+◌, ◌<◌, Bool, true, false, Option, Some, None, List, [], ◌∷◌, ◌++◌, length, map, take, drop, remove, replicate, unwrap_or, refl, sym, ap, subst, ◌∙◌, arith, inl, inr}
use Rattle.std.specs.Prelude.{◌⊎◌, Contains, slice_get, slice_set}
use Rattle.std.specs.List.{cons_option, filter_map, find, flat_map, list_any, range_with_len}
use Rattle.std.proofs.lemmas.Bool.{cases_Bool, or_right}
use Rattle.std.proofs.lemmas.List.{get_or-map, length-map}
use Rattle.std.proofs.lemmas.List.Elements.{Contains-append_cases, Contains-append_left, Contains-append_right}

pub either : {A : Type 0} (x y : A) (xs : List A) → Contains (x ∷ xs) y → (x ≡ y) ⊎ Contains xs y
either x y xs (zero, less, is) = inl is
either x y xs (suc k, less, is) = inr (k, omega (arith, less), is)

pub first_here : {A : Type 0} (x : A) (xs : List A) → Contains (x ∷ xs) x
first_here x xs = (zero, omega arith, refl)

pub later_here : {A : Type 0} (x y : A) (xs : List A) → Contains xs y → Contains (x ∷ xs) y
later_here x y xs (k, less, is) = (suc k, omega (arith, less), is)

pub in_map : {A B : Type 0} (f : A → B) (xs : List A) (x : A) → Contains xs x → Contains (map f xs) (f x)
in_map f xs x h = (h.0, subst (λ (n : ℕ). h.0 < n) (sym (length-map xs f)) h.1, get_or-map f xs h.0 x (f x) h.1 ∙ ap f h.2)

module _ {A B : Type 0} (h : A → Option B) where
  abbrev pub IsFrom : List A → B → Type 0
  IsFrom xs y = (x : A) × Contains xs x × (h x ≡ Some y)

  by_first : (x : A) (xs : List A) (y : B) (first : Option B) → h x ≡ first → (Contains (filter_map h xs) y → IsFrom xs y) → Contains (cons_option first (filter_map h xs)) y → IsFrom (x ∷ xs) y
  by_first x xs y None e rest c = let (z, among, is) = rest c in (z, later_here x z xs among, is)
  by_first x xs y (Some v) e rest c =
      elim (either v y (filter_map h xs) c) [
        | inl here ↦ (x, first_here x xs, e ∙ ap (λ (w : B). Some w) here)
        | inr later ↦ let (z, among, is) = rest later in (z, later_here x z xs among, is)
      ]

  pub from_filter : (xs : List A) (y : B) → Contains (filter_map h xs) y → IsFrom xs y
  from_filter [] y (k, less, is) = absurd (omega (arith, less))
  from_filter (x ∷ xs) y there = by_first x xs y (h x) refl (from_filter xs y) there

  by_first_given : (x : A) (xs : List A) (y : B) (first : Option B) → h x ≡ first → h x ≡ Some y → Contains (cons_option first (filter_map h xs)) y
  by_first_given x xs y None e given = let bad : ◌≡◌ {A = Option B} None (Some y) = sym e ∙ given in absurd cc
  by_first_given x xs y (Some v) e given =
      let is : ◌≡◌ {A = Option B} (Some v) (Some y) = sym e ∙ given in
      let same : v ≡ y = cc in
      subst (λ (z : B). Contains (v ∷ filter_map h xs) z) same (first_here v (filter_map h xs))

  by_later_given : (xs : List A) (y : B) (first : Option B) → Contains (filter_map h xs) y → Contains (cons_option first (filter_map h xs)) y
  by_later_given xs y None c = c
  by_later_given xs y (Some v) c = later_here v y (filter_map h xs) c

  pub into_filter : (xs : List A) (x : A) (y : B) → Contains xs x → h x ≡ Some y → Contains (filter_map h xs) y
  into_filter [] x y (k, less, is) given = absurd (omega (arith, less))
  into_filter (z ∷ xs) x y there given =
      elim (either z x xs there) [
        | inl here ↦ by_first_given z xs y (h z) refl (ap h here ∙ given)
        | inr later ↦ by_later_given xs y (h z) (into_filter xs x y later given)
      ]

pub into_flat : {A B : Type 0} (f : A → List B) (xs : List A) (i : ℕ) (x : A) (y : B) → slice_get xs i ≡ Some x → Contains (f x) y → Contains (flat_map f xs) y
into_flat f [] i x y at c = absurd cc
into_flat f (z ∷ xs) zero x y at c =
    let same : z ≡ x = cc in
    Contains-append_left (f z) (flat_map f xs) y (subst (λ w. Contains (f w) y) (sym same) c)
into_flat f (z ∷ xs) (suc i) x y at c = Contains-append_right (f z) (flat_map f xs) y (into_flat f xs i x y at c)

pub in_range : (a n i k : ℕ) → a + i ≡ k → i < n → Contains (range_with_len a n) k
in_range a zero i k e less = absurd (omega (arith, less))
in_range a (suc n) zero k e less =
    let same : a ≡ k = omega (arith, e) in
    subst (λ (j : ℕ). Contains (range_with_len a (suc n)) j) same (first_here a (range_with_len (a + 1) n))
in_range a (suc n) (suc i) k e less = later_here a k (range_with_len (a + 1) n) (in_range (a + 1) n i k (omega (arith, e)) (omega (arith, less)))

pub from_map : {A B : Type 0} (f : A → B) (xs : List A) (y : B) → Contains (map f xs) y → (x : A) × Contains xs x × (f x ≡ y)
from_map f [] y (k, less, is) = absurd (omega (arith, less))
from_map f (x ∷ xs) y there =
    elim (either (f x) y (map f xs) there) [
      | inl here ↦ (x, first_here x xs, here)
      | inr later ↦ let (z, among, is) = from_map f xs y later in (z, later_here x z xs among, is)
    ]

pub at_map : {A B : Type 0} (f : A → B) (xs : List A) (i : ℕ) (y : B) → slice_get (map f xs) i ≡ Some y → (x : A) × (slice_get xs i ≡ Some x) × (f x ≡ y)
at_map f [] i y e = absurd cc
at_map f (x ∷ xs) zero y e = (x, refl, cc)
at_map f (x ∷ xs) (suc i) y e = at_map f xs i y e

pub from_flat : {A B : Type 0} (f : A → List B) (xs : List A) (y : B) → Contains (flat_map f xs) y → (i : ℕ) × (x : A) × (slice_get xs i ≡ Some x) × Contains (f x) y
from_flat f [] y (k, less, is) = absurd (omega (arith, less))
from_flat f (x ∷ xs) y there =
    elim (Contains-append_cases (f x) (flat_map f xs) y there) [
      | inl here ↦ (zero, x, refl, here)
      | inr later ↦ let (i, z, at, among) = from_flat f xs y later in (suc i, z, at, among)
    ]

pub drop_get : {A : Type 0} (xs : List A) (a j n : ℕ) → a + j ≡ n → slice_get (drop a xs) j ≡ slice_get xs n
drop_get xs zero j n e = ap (λ (k : ℕ). slice_get xs k) (omega (arith, e))
drop_get [] (suc a) j n e = refl
drop_get (x ∷ xs) (suc a) j zero e = absurd (omega (arith, e))
drop_get (x ∷ xs) (suc a) j (suc n) e = drop_get xs a j n (omega (arith, e))

pub found_at : {A : Type 0} (test : A → Bool) (xs : List A) (x : A) → find test xs ≡ Some x → (i : ℕ) × (slice_get xs i ≡ Some x) × (test x ≡ true)
found_at test [] x e = absurd cc
found_at test (y ∷ xs) x e =
    elim (cases_Bool (test y)) [
      | inl passes ↦ let same : y ≡ x = (let here : Some y ≡ Some x = rw passes at e in cc) in (zero, ap (λ z. Some z) same, ap test (sym same) ∙ passes)
      | inr fails ↦ let (i, at, is) = found_at test xs x (rw fails at e) in (suc i, at, is)
    ]

module _ {A : Type 0} (test : A → Bool) where
  pub any_at : (xs : List A) → list_any test xs ≡ true → (i : ℕ) × (x : A) × (slice_get xs i ≡ Some x) × (test x ≡ true)
  any_at [] e = absurd cc
  any_at (y ∷ xs) e =
      elim (cases_Bool (test y)) [
        | inl passes ↦ (zero, y, refl, passes)
        | inr fails ↦ let (i, x, at, is) = any_at xs (rw fails at e) in (suc i, x, at, is)
      ]

  pub any_in : (xs : List A) (x : A) → Contains xs x → test x ≡ true → list_any test xs ≡ true
  any_in [] x (k, less, is) passes = absurd (omega (arith, less))
  any_in (y ∷ xs) x held passes =
      elim (either y x xs held) [
        | inl here ↦ rw (ap test here ∙ passes) refl
        | inr later ↦ or_right (test y) (list_any test xs) (any_in xs x later passes)
      ]

  pub none_found : (xs : List A) → find test xs ≡ None → (x : A) → Contains xs x → test x ≡ false
  none_found [] e x (k, less, is) = absurd (omega (arith, less))
  none_found (y ∷ xs) e x held =
      elim (cases_Bool (test y)) [
        | inl passes ↦ let bad : Some y ≡ None = rw passes at e in absurd cc
        | inr fails ↦ elim (either y x xs held) [
          | inl here ↦ subst (λ (z : A). test z ≡ false) here fails
          | inr later ↦ none_found xs (rw fails at e) x later
        ]
      ]

-- ---- parts of a list

pub nothing_here : {A : Type 0} (x : A) → Contains [] x → ⊥
nothing_here x (k, less, is) = absurd (omega (arith, less))

module _ {A : Type 0} where
  pub among : (xs : List A) (i : ℕ) (x : A) → slice_get xs i ≡ Some x → Contains xs x
  among [] i x e = absurd cc
  among (y ∷ xs) zero x e = let same : y ≡ x = cc in subst (λ (z : A). Contains (y ∷ xs) z) same (first_here y xs)
  among (y ∷ xs) (suc i) x e = later_here y x xs (among xs i x e)

  from_take : (xs : List A) (i : ℕ) (x : A) → Contains (take i xs) x → Contains xs x
  from_take xs zero x h = absurd (nothing_here x h)
  from_take [] (suc i) x h = h
  from_take (y ∷ xs) (suc i) x h =
      elim (either y x (take i xs) h) [
        | inl here ↦ subst (λ (z : A). Contains (y ∷ xs) z) here (first_here y xs)
        | inr later ↦ later_here y x xs (from_take xs i x later)
      ]

  pub from_drop : (xs : List A) (i : ℕ) (x : A) → Contains (drop i xs) x → Contains xs x
  from_drop xs zero x h = h
  from_drop [] (suc i) x h = h
  from_drop (y ∷ xs) (suc i) x h = later_here y x xs (from_drop xs i x h)

  pub from_remove : (xs : List A) (i : ℕ) (x : A) → Contains (remove xs i) x → Contains xs x
  from_remove xs i x h =
      elim (Contains-append_cases (take i xs) (drop (suc i) xs) x h) [
        | inl front ↦ from_take xs i x front
        | inr rest ↦ from_drop xs (suc i) x rest
      ]

  -- what is at a place, where a list was changed at one
  pub at_set : (xs : List A) (i j : ℕ) (new x : A) → slice_get (slice_set xs i new) j ≡ Some x → ((i ≡ j) × (new ≡ x)) ⊎ (slice_get xs j ≡ Some x)
  at_set [] i j new x e = inr e
  at_set (y ∷ xs) zero zero new x e = inl (refl, cc)
  at_set (y ∷ xs) zero (suc j) new x e = inr e
  at_set (y ∷ xs) (suc i) zero new x e = inr e
  at_set (y ∷ xs) (suc i) (suc j) new x e =
      elim (at_set xs i j new x e) [
        | inl here ↦ inl (ap suc here.0, here.1)
        | inr old ↦ inr old
      ]

  pub drop_seam : (xs ys : List A) → drop (length xs) (xs ++ ys) ≡ ys
  drop_seam [] ys = refl
  drop_seam (x ∷ xs) ys = drop_seam xs ys

  pub from_equal : (n : ℕ) (x y : A) → Contains (replicate n x) y → x ≡ y
  from_equal zero x y h = absurd (nothing_here y h)
  from_equal (suc n) x y h =
      elim (either x y (replicate n x) h) [
        | inl here ↦ here
        | inr later ↦ from_equal n x y later
      ]

  -- of a list of lists the one at a place, or nothing
  pub from_own : (xss : List (List A)) (i : ℕ) (x : A) → Contains (unwrap_or (slice_get xss i) []) x → (xs : List A) × (slice_get xss i ≡ Some xs) × Contains xs x
  from_own [] i x h = absurd (nothing_here x h)
  from_own (xs ∷ xss) zero x h = (xs, refl, h)
  from_own (xs ∷ xss) (suc i) x h = from_own xss i x h
