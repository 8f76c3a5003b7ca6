-- A list without some of its entries.
use Rattle.std.proofs.Common.{◌≡◌, ℕ, zero, suc, ◌+◌, ◌≢◌, cond, map, option_map, ◌≤◌, Bool, true, false, Option, Some, None, List, [], ◌∷◌, ◌++◌, length, refl, sym, ◌∙◌, ap, subst, arith, inl, inr}
use Rattle.std.specs.Prelude.{◌⊎◌, count_by, slice_get, slice_set}
use Rattle.std.specs.List.{list_all, list_any}
use Rattle.std.specs.Option.{option_or}
use Rattle.std.proofs.lemmas.Bool.{and_parts, or_parts}
use Rattle.std.proofs.lemmas.Option.{slice_get_within, slice_get-get_or, slice_get-map}
use Rattle.std.proofs.lemmas.List.{length-map, length-set}
use Rattle.std.proofs.lemmas.List.Sums.{sum_by-cons}
use Rattle.outcomes.specs.Lists.{newest}
use Rattle.fewer_fences.specs.Thinner.{AreByPlace, Thins}

-- an entry stays, at which the longer list is split
pub record StaysAt {A : Type 0} (may : A → Bool) (entry : A) (before later less : List A) : Type 0 where
  pub first : List A
  pub last : List A
  pub whole : less ≡ first ++ entry ∷ last
  pub before_it : Thins may before first
  pub behind_it : Thins may later last

-- or it is left out
pub record GoesAt {A : Type 0} (may : A → Bool) (entry : A) (before later less : List A) : Type 0 where
  pub first : List A
  pub last : List A
  pub gone : may entry ≡ true
  pub whole : less ≡ first ++ last
  pub before_it : Thins may before first
  pub behind_it : Thins may later last

or_none : (o : Option ℕ) → option_or o None ≡ o
or_none None = refl
or_none (Some n) = refl

module _ {A : Type 0} (may : A → Bool) where
  pub thins_itself : (xs : List A) → Thins may xs xs
  thins_itself [] = refl
  thins_itself (x ∷ xs) = inl (xs, refl, thins_itself xs)

  pub thins_joined : (a b c d : List A) → Thins may a c → Thins may b d → Thins may (a ++ b) (c ++ d)
  thins_joined [] b c d h k = subst (λ (xs : List A). Thins may b (xs ++ d)) (sym h) k
  thins_joined (x ∷ a) b c d (inl (rest, is, h)) k = inl (rest ++ d, ap (λ (xs : List A). xs ++ d) is, thins_joined a b rest d h k)
  thins_joined (x ∷ a) b c d (inr (gone, h)) k = inr (gone, thins_joined a b c d h k)

  pub thins_any : (test : A → Bool) (more less : List A) → Thins may more less → list_any test more ≡ false → list_any test less ≡ false
  thins_any test [] less h none = ap (list_any test) h
  thins_any test (x ∷ more) less (inl (rest, is, h)) none =
      let parts = or_parts (test x) (list_any test more) none in rw (is, parts.0) (thins_any test more rest h parts.1)
  thins_any test (x ∷ more) less (inr (gone, h)) none =
      let parts = or_parts (test x) (list_any test more) none in thins_any test more less h parts.1

  pub thins_length : (more less : List A) → Thins may more less → length less ≤ length more
  thins_length [] less h = let e = ap length h in omega (arith, e)
  thins_length (x ∷ more) less (inl (rest, is, h)) = let e = ap length is in let k = thins_length more rest h in omega (arith, e, k)
  thins_length (x ∷ more) less (inr (gone, h)) = let k = thins_length more less h in omega (arith, k)

  counted : (test : A → Bool) (x : A) (xs : List A) → count_by test (x ∷ xs) ≡ cond (test x) 1 0 + count_by test xs
  counted test x xs = sum_by-cons (λ (y : A). cond (test y) 1 0) x xs

  pub thins_count : (test : A → Bool) (more less : List A) → Thins may more less → count_by test less ≤ count_by test more
  thins_count test [] less h = let e = ap (count_by test) h in omega (arith, e)
  thins_count test (x ∷ more) less (inl (rest, is, h)) =
      let e = ap (count_by test) is ∙ counted test x rest in
      let k = thins_count test more rest h in
      let n = counted test x more in
      omega (arith, e, k, n)
  thins_count test (x ∷ more) less (inr (gone, h)) = let k = thins_count test more less h in let n = counted test x more in omega (arith, k, n)

  pub thins_newest : (gives : A → Option ℕ) → ((x : A) → may x ≡ true → gives x ≡ None) → (more less : List A) → Thins may more less → newest gives less ≡ newest gives more
  thins_newest gives none [] less h = ap (newest gives) h
  thins_newest gives none (x ∷ more) less (inl (rest, is, h)) =
      ap (newest gives) is ∙ ap (λ (o : Option ℕ). option_or o (gives x)) (thins_newest gives none more rest h)
  thins_newest gives none (x ∷ more) less (inr (gone, h)) =
      thins_newest gives none more less h ∙ sym (or_none (newest gives more)) ∙ ap (λ (o : Option ℕ). option_or (newest gives more) o) (sym (none x gone))

  behind_one : (x y : A) (before later less rest : List A) → less ≡ y ∷ rest → StaysAt may x before later rest ⊎ GoesAt may x before later rest
      → StaysAt may x (y ∷ before) later less ⊎ GoesAt may x (y ∷ before) later less
  behind_one x y before later less rest is (inl s) =
      inl (record {
        first = y ∷ s.first;
        last = s.last;
        whole = is ∙ ap (λ (xs : List A). y ∷ xs) s.whole;
        before_it = inl (s.first, refl, s.before_it);
        behind_it = s.behind_it;
      })
  behind_one x y before later less rest is (inr s) =
      inr (record {
        first = y ∷ s.first;
        last = s.last;
        gone = s.gone;
        whole = is ∙ ap (λ (xs : List A). y ∷ xs) s.whole;
        before_it = inl (s.first, refl, s.before_it);
        behind_it = s.behind_it;
      })

  behind_none : (x y : A) (before later less : List A) → may y ≡ true → StaysAt may x before later less ⊎ GoesAt may x before later less
      → StaysAt may x (y ∷ before) later less ⊎ GoesAt may x (y ∷ before) later less
  behind_none x y before later less gone (inl s) =
      inl (record { first = s.first; last = s.last; whole = s.whole; before_it = inr (gone, s.before_it); behind_it = s.behind_it })
  behind_none x y before later less gone (inr s) =
      inr (record { first = s.first; last = s.last; gone = s.gone; whole = s.whole; before_it = inr (gone, s.before_it); behind_it = s.behind_it })

  pub thins_split : (x : A) (before later less : List A) → Thins may (before ++ x ∷ later) less → StaysAt may x before later less ⊎ GoesAt may x before later less
  thins_split x [] later less (inl (rest, is, h)) = inl (record { first = []; last = rest; whole = is; before_it = refl; behind_it = h })
  thins_split x [] later less (inr (gone, h)) = inr (record { first = []; last = less; gone = gone; whole = refl; before_it = refl; behind_it = h })
  thins_split x (y ∷ before) later less (inl (rest, is, h)) = behind_one x y before later less rest is (thins_split x before later rest h)
  thins_split x (y ∷ before) later less (inr (gone, h)) = behind_none x y before later less gone (thins_split x before later less h)

-- ---- place by place

pub other_there : {A : Type 0} (xs ys : List A) (i : ℕ) (x : A) → length ys ≡ length xs → slice_get xs i ≡ Some x → (y : A) × (slice_get ys i ≡ Some y)
other_there xs ys i x e at = let within = slice_get_within xs i x at in (_, slice_get-get_or ys i x (omega (arith, e, within)))

-- what is at a place of a list in which one was changed
later_place : {A : Type 0} (xs : List A) (y : A) (p i : ℕ) (x z : A) → ((i ≡ p) × (z ≡ x)) ⊎ ((i ≢ p) × (slice_get xs i ≡ Some z))
    → ((suc i ≡ suc p) × (z ≡ x)) ⊎ ((suc i ≢ suc p) × (slice_get (y ∷ xs) (suc i) ≡ Some z))
later_place xs y p i x z (inl (here, is)) = inl (ap suc here, is)
later_place xs y p i x z (inr (apart, at)) = inr (λ e. apart (omega (arith, e)), at)

pub set_at : {A : Type 0} (xs : List A) (p i : ℕ) (x z : A) → slice_get (slice_set xs p x) i ≡ Some z → ((i ≡ p) × (z ≡ x)) ⊎ ((i ≢ p) × (slice_get xs i ≡ Some z))
set_at [] p i x z e = absurd (cc)
set_at (y ∷ xs) zero zero x z e = inl (refl, let is : x ≡ z = cc in sym is)
set_at (y ∷ xs) zero (suc i) x z e = inr (λ same. omega (arith, same), e)
set_at (y ∷ xs) (suc p) zero x z e = inr (λ same. omega (arith, same), e)
set_at (y ∷ xs) (suc p) (suc i) x z e = later_place xs y p i x z (set_at xs p i x z e)

pub set_by_place : {A : Type 0} (Are : A → A → Type 0) (xs ys : List A) (p : ℕ) (x y : A) → AreByPlace Are xs ys → Are x y → AreByPlace Are (slice_set xs p x) (slice_set ys p y)
set_by_place Are xs ys p x y h now = record {
  count = length-set ys p y ∙ h.count ∙ sym (length-set xs p x);
  each = λ place this other at and. by place this other (set_at xs p place x this at) (set_at ys p place y other and);
}
  where
    by : (place : ℕ) (this other : _) → ((place ≡ p) × (this ≡ x)) ⊎ ((place ≢ p) × (slice_get xs place ≡ Some this))
        → ((place ≡ p) × (other ≡ y)) ⊎ ((place ≢ p) × (slice_get ys place ≡ Some other)) → Are this other
    by place this other (inl (here, is)) (inl (there, was)) = subst (λ a. Are a other) (sym is) (subst (λ b. Are x b) (sym was) now)
    by place this other (inl (here, is)) (inr (apart, was)) = absurd (apart here)
    by place this other (inr (apart, is)) (inl (there, was)) = absurd (apart there)
    by place this other (inr (apart, is)) (inr (away, was)) = h.each place this other is was

-- what a function makes of two lists
was_there : {A B : Type 0} (v : A → B) (o : Option A) (y : B) → option_map v o ≡ Some y → (x : A) × (o ≡ Some x) × (v x ≡ y)
was_there v None y e = absurd (cc)
was_there v (Some x) y e = (x, refl, let is : v x ≡ y = cc in is)

pub mapped_by_place : {A B : Type 0} (Is : A → A → Type 0) (Are : B → B → Type 0) (v : A → B) (xs ys : List A) → ((x y : A) → Is x y → Are (v x) (v y))
    → AreByPlace Is xs ys → AreByPlace Are (map v xs) (map v ys)
mapped_by_place {A} {B} Is Are v xs ys keeps h = record {
  count = length-map ys v ∙ h.count ∙ sym (length-map xs v);
  each = λ place this other at and.
      let x = was_there v (slice_get xs place) this (sym (slice_get-map v xs place) ∙ at) in
      let y = was_there v (slice_get ys place) other (sym (slice_get-map v ys place) ∙ and) in
      subst (λ a. Are a other) x.2 (subst (λ b. Are (v x.0) b) y.2 (keeps x.0 y.0 (h.each place x.0 y.0 x.1 y.1)));
}

pub set_there : {A : Type 0} (xs : List A) (p : ℕ) (x : A) → slice_get xs p ≡ Some x → slice_set xs p x ≡ xs
set_there [] p x at = refl
set_there (y ∷ xs) zero x at = let is : y ≡ x = cc in ap (λ z. z ∷ xs) (sym is)
set_there (y ∷ xs) (suc p) x at = ap (λ zs. y ∷ zs) (set_there xs p x at)

-- none is at a place of the one, where none is of the other
pub none_there : {A : Type 0} (xs ys : List A) (i : ℕ) → length ys ≡ length xs → slice_get xs i ≡ None → slice_get ys i ≡ None
none_there xs ys i e none = by (slice_get ys i) refl
  where
    by : (o : Option _) → slice_get ys i ≡ o → o ≡ None
    by None is = refl
    by (Some y) is = let x = other_there ys xs i y (sym e) is in let both : Some x.0 ≡ None = sym x.1 ∙ none in absurd (cc)

-- a test that passes at each place of the one, passes at each of the other
pub tail_by_place : {A : Type 0} (Are : A → A → Type 0) (x y : A) (xs ys : List A) → AreByPlace Are (x ∷ xs) (y ∷ ys) → AreByPlace Are xs ys
tail_by_place Are x y xs ys h = record {
  count = let long = h.count in omega (arith, long);
  each = λ place this other at and. h.each (suc place) this other at and;
}

pub all_by_place : {A : Type 0} (Are : A → A → Type 0) (test : A → Bool) → ((x y : A) → Are x y → test x ≡ true → test y ≡ true) → (xs ys : List A) → AreByPlace Are xs ys
    → list_all test xs ≡ true → list_all test ys ≡ true
all_by_place Are test keeps [] [] h all = refl
all_by_place Are test keeps [] (y ∷ ys) h all = let long = h.count in absurd (omega (arith, long))
all_by_place Are test keeps (x ∷ xs) [] h all = refl
all_by_place Are test keeps (x ∷ xs) (y ∷ ys) h all =
    let parts = and_parts (test x) (list_all test xs) all in
    let here = keeps x y (h.each 0 x y refl refl) parts.0 in
    rw here (all_by_place Are test keeps xs ys (tail_by_place Are x y xs ys h) parts.1)
