-- The list of entries, and the list with their serials.
use Rattle.std.proofs.Common.{◌≡◌, ℕ, zero, suc, ◌+◌, ◌<◌, ◌≤◌, Bool, true, false, cond, List, [], ◌∷◌, take, Some, None, refl, sym, ◌∙◌, ap, subst, arith, inl, inr, map}
use Rattle.std.specs.Prelude.{nat_lt, find, count_by, option_map}
use Rattle.std.specs.List.{AllByRecursion, list_any, position_or_len}
use Rattle.std.proofs.lemmas.Bool.{cases_Bool}
use Rattle.std.proofs.lemmas.List.Sums.{sum_by-cons}
use Rattle.std.proofs.lemmas.List.{take-map}
use Rattle.persist_buffer.specs.declared.ring.StampedEntry.{StampedEntry}
use Rattle.persist_buffer.specs.Rings.{Rising}
use Rattle.persist_buffer.specs.Firsts.{drop_first, before_first}
use Rattle.persist_buffer.proofs.ListsBySerial.{lt_true, lt_false}

-- what is found passes
pub find_passes : {X : Type 0} (p : X → Bool) (xs : List X) (e : X) → find p xs ≡ Some e → p e ≡ true
find_passes p [] e h = absurd (cc)
find_passes p (x ∷ xs) e h = elim (cases_Bool (p x)) [
  | inl y ↦ let g = rw y at h in let same : x ≡ e = cc in subst (λ z. p z ≡ true) same y
  | inr n ↦ find_passes p xs e (rw n at h)
]

module _ {X Y : Type 0} (f : X → Y) (p : Y → Bool) where
  pub find-map : (xs : List X) → find p (map f xs) ≡ option_map f (find (λ x. p (f x)) xs)
  find-map [] = refl
  find-map (x ∷ xs) = elim (cases_Bool (p (f x))) [ inl y ↦ simp y | inr n ↦ simp (n, find-map xs) ]

  pub drop_first-map : (xs : List X) → drop_first p (map f xs) ≡ map f (drop_first (λ x. p (f x)) xs)
  drop_first-map [] = refl
  drop_first-map (x ∷ xs) = elim (cases_Bool (p (f x))) [ inl y ↦ simp y | inr n ↦ simp (n, drop_first-map xs) ]

  pub place-map : (xs : List X) → position_or_len p (map f xs) ≡ position_or_len (λ x. p (f x)) xs
  place-map [] = refl
  place-map (x ∷ xs) = elim (cases_Bool (p (f x))) [ inl y ↦ simp y | inr n ↦ simp (n, place-map xs) ]

  pub any-map : (xs : List X) → list_any p (map f xs) ≡ list_any (λ x. p (f x)) xs
  any-map [] = refl
  any-map (x ∷ xs) = elim (cases_Bool (p (f x))) [ inl y ↦ simp y | inr n ↦ simp (n, any-map xs) ]

  pub count_by-map : (xs : List X) → count_by p (map f xs) ≡ count_by (λ x. p (f x)) xs
  count_by-map [] = refl
  count_by-map (x ∷ xs) = sum_by-cons (λ y. cond (p y) 1 0) (f x) (map f xs) ∙ (ap (λ n. cond (p (f x)) 1 0 + n) (count_by-map xs) ∙ sym (sum_by-cons (λ z. cond (p (f z)) 1 0) x xs))

pub before-map : {X Y : Type 0} (f : X → Y) (p q : Y → Bool) (xs : List X) → list_any q (before_first p (map f xs)) ≡ list_any (λ x. q (f x)) (before_first (λ x. p (f x)) xs)
before-map f p q xs = rw (place-map f p xs, take-map f (position_or_len (λ x. p (f x)) xs) xs) (any-map f q (take (position_or_len (λ x. p (f x)) xs) xs))

-- the first that passes is no smaller than the first of all
least_first : (p : StampedEntry → Bool) (n : ℕ) (xs : List StampedEntry) (e : StampedEntry) → AllByRecursion (λ y. n < y.serial) xs → find p xs ≡ Some e → n < e.serial
least_first p n [] e h f = absurd (cc)
least_first p n (x ∷ xs) e h f = elim (cases_Bool (p x)) [
  | inl y ↦ let g = rw y at f in let same : x ≡ e = cc in let eq : x.serial ≡ e.serial = ap (λ s. s.serial) same in omega (arith, h.0)
  | inr np ↦ least_first p n xs e h.1 (rw np at f)
]

none_any : (q : StampedEntry → Bool) (xs : List StampedEntry) (n : ℕ) → find q xs ≡ None → list_any q (take n xs) ≡ false
none_any q [] zero h = refl
none_any q [] (suc n) h = refl
none_any q (x ∷ xs) zero h = refl
none_any q (x ∷ xs) (suc n) h = elim (cases_Bool (q x)) [
  | inl y ↦ let g = rw y at h in absurd (cc)
  | inr nq ↦ let g = rw nq at h in simp (nq, none_any q xs n g)
]

pub none_before : (p q : StampedEntry → Bool) (xs : List StampedEntry) → find q xs ≡ None → list_any q (before_first p xs) ≡ false
none_before p q xs h = none_any q xs (position_or_len p xs) h

pub before_passes : (p : StampedEntry → Bool) (x : StampedEntry) (xs : List StampedEntry) → p x ≡ true → before_first p (x ∷ xs) ≡ []
before_passes p x xs y = rw y refl

pub before_cons : (p : StampedEntry → Bool) (x : StampedEntry) (xs : List StampedEntry) → p x ≡ false → before_first p (x ∷ xs) ≡ x ∷ before_first p xs
before_cons p x xs n = let next : 1 + position_or_len p xs ≡ suc (position_or_len p xs) = omega arith in rw (n, next) refl

-- of two tests, the serials of the first that pass say which stands first
pub stands_by_serial : (p q : StampedEntry → Bool) (xs : List StampedEntry) (e m : StampedEntry) → Rising xs → find p xs ≡ Some e → find q xs ≡ Some m → list_any q (before_first p xs) ≡ nat_lt m.serial e.serial
stands_by_serial p q [] e m r f g = absurd (cc)
stands_by_serial p q (x ∷ xs) e m r f g = elim (cases_Bool (p x)) [
  | inl px ↦ let f2 = rw px at f in let is : x ≡ e = cc in
      elim (cases_Bool (q x)) [
        | inl qx ↦ let g2 = rw qx at g in let also : x ≡ m = cc in
            let le : e.serial ≤ m.serial = let a : x.serial ≡ e.serial = ap (λ s. s.serial) is in let b : x.serial ≡ m.serial = ap (λ s. s.serial) also in omega arith in
            ap (list_any q) (before_passes p x xs px) ∙ sym (lt_false m.serial e.serial le)
        | inr qx ↦ let g2 = rw qx at g in
            let lt = least_first q x.serial xs m r.0 g2 in
            let le : e.serial ≤ m.serial = let a : x.serial ≡ e.serial = ap (λ s. s.serial) is in omega arith in
            ap (list_any q) (before_passes p x xs px) ∙ sym (lt_false m.serial e.serial le)
      ]
  | inr px ↦ let f2 = rw px at f in
      elim (cases_Bool (q x)) [
        | inl qx ↦ let g2 = rw qx at g in let also : x ≡ m = cc in
            let lt = least_first p x.serial xs e r.0 f2 in
            let le : m.serial < e.serial = let a : x.serial ≡ m.serial = ap (λ s. s.serial) also in omega arith in
            ap (list_any q) (before_cons p x xs px) ∙ simp (qx, lt_true m.serial e.serial le)
        | inr qx ↦ let g2 = rw qx at g in ap (list_any q) (before_cons p x xs px) ∙ simp (qx, stands_by_serial p q xs e m r.1 f2 g2)
      ]
]
