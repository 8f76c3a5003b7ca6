-- The first entry of a ring in a list in the order of serials.
use Rattle.std.proofs.Common.{◌≡◌, ◌<◌, Bool, true, false, List, [], ◌∷◌, drop, Some, refl, ap, inl, inr}
use Rattle.std.specs.Prelude.{filter, find, slice_get}
use Rattle.std.specs.List.{AllByRecursion}
use Rattle.std.proofs.lemmas.Bool.{cases_Bool, cases_lt}
use Rattle.persist_buffer.specs.declared.ring.StampedEntry.{StampedEntry}
use Rattle.persist_buffer.specs.Rings.{placed, Rising}
use Rattle.persist_buffer.specs.Firsts.{drop_first}
use Rattle.persist_buffer.proofs.ListsBySerial.{Apart, lt_true, lt_false}

pub find-filter : (p : StampedEntry → Bool) (xs : List StampedEntry) → slice_get (filter p xs) 0 ≡ find p xs
find-filter p [] = refl
find-filter p (x ∷ xs) = elim (cases_Bool (p x)) [ inl y ↦ simp y | inr n ↦ simp (n, find-filter p xs) ]

pub filter-drop_first : (p : StampedEntry → Bool) (xs : List StampedEntry) → filter p (drop_first p xs) ≡ drop 1 (filter p xs)
filter-drop_first p [] = refl
filter-drop_first p (x ∷ xs) = elim (cases_Bool (p x)) [ inl y ↦ simp y | inr n ↦ simp (n, filter-drop_first p xs) ]

pub filter-drop_other : (p q : StampedEntry → Bool) (xs : List StampedEntry) → ((x : StampedEntry) → p x ≡ true → q x ≡ false) → filter q (drop_first p xs) ≡ filter q xs
filter-drop_other p q [] f = refl
filter-drop_other p q (x ∷ xs) f = elim (cases_Bool (p x)) [ inl y ↦ simp (y, f x y) | inr n ↦ simp (n, filter-drop_other p q xs f) ]

pub all-drop_first : (P : StampedEntry → Type 0) (p : StampedEntry → Bool) (xs : List StampedEntry) → AllByRecursion P xs → AllByRecursion P (drop_first p xs)
all-drop_first P p [] h = tt
all-drop_first P p (x ∷ xs) h = elim (cases_Bool (p x)) [ inl y ↦ rw y h.1 | inr n ↦ rw n (h.0, all-drop_first P p xs h.1) ]

pub rising-drop_first : (p : StampedEntry → Bool) (xs : List StampedEntry) → Rising xs → Rising (drop_first p xs)
rising-drop_first p [] h = tt
rising-drop_first p (x ∷ xs) h = elim (cases_Bool (p x)) [ inl y ↦ rw y h.1 | inr n ↦ rw n (all-drop_first (λ y. x.serial < y.serial) p xs h.0, rising-drop_first p xs h.1) ]

-- an entry that is first of its ring where it was placed leaves what it was placed in
pub first_placed : (p : StampedEntry → Bool) (e : StampedEntry) (xs : List StampedEntry) → Apart e xs → p e ≡ true → find p (placed e xs) ≡ Some e → xs ≡ drop_first p (placed e xs)
first_placed p e [] a y f = simp y
first_placed p e (x ∷ xs) a y f = elim (cases_lt e.serial x.serial) [
  | inl lt ↦ simp (lt_true e.serial x.serial lt, y)
  | inr ge ↦ elim (cases_Bool (p x)) [
    | inl px ↦ let g = rw (lt_false e.serial x.serial ge, px) at f in let same : x ≡ e = cc in absurd (a.0 (ap (λ s. s.serial) same))
    | inr px ↦ let g = rw (lt_false e.serial x.serial ge, px) at f in rw (lt_false e.serial x.serial ge, px) (ap (λ ys. x ∷ ys) (first_placed p e xs a.1 y g))
  ]
]
