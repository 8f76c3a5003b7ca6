-- Entries of one ring, and what stands before one of another.
use Rattle.std.proofs.Common.{◌≡◌, ℕ, zero, suc, ◌<◌, ◌≤◌, Bool, false, List, [], ◌∷◌, length, get_or, Some, refl, sym, ◌∙◌, ap, subst, arith, inl, inr}
use Rattle.std.specs.Prelude.{nat_lt, filter, count_by, slice_get}
use Rattle.std.specs.List.{AllByRecursion}
use Rattle.std.proofs.lemmas.Bool.{cases_Bool}
use Rattle.std.proofs.lemmas.Option.{slice_get-get_or}
use Rattle.circular_buffer.specs.Buffer.{Buffer}
use Rattle.persist_buffer.specs.declared.ring.StampedEntry.{StampedEntry}
use Rattle.persist_buffer.specs.Rings.{is_in, Rising, IsMerged}
use Rattle.persist_buffer.specs.Firsts.{before_nth}
use Rattle.persist_buffer.proofs.ListsBySerial.{lt_true, lt_false}
use Rattle.persist_buffer.proofs.CountsBelowASerial.{one_if, count_cons}
use Rattle.persist_buffer.proofs.RingEdits.{counted}
use Rattle.persist_buffer.proofs.Merging.{all_filter}

-- where no more than k pass, all stand before number k
pub before_all : (p : StampedEntry → Bool) (k : ℕ) (xs : List StampedEntry) → count_by p xs ≤ k → before_nth k p xs ≡ xs
before_all p k [] h = refl
before_all p zero (x ∷ xs) h = elim (cases_Bool (p x)) [
  | inl y ↦ let c = count_cons p x xs in let one : one_if (p x) ≡ 1 = ap one_if y in absurd (omega arith)
  | inr n ↦ let c = count_cons p x xs in rw n (ap (λ ys. x ∷ ys) (before_all p 0 xs (omega arith)))
]
before_all p (suc k) (x ∷ xs) h = elim (cases_Bool (p x)) [
  | inl y ↦ let c = count_cons p x xs in let one : one_if (p x) ≡ 1 = ap one_if y in rw y (ap (λ ys. x ∷ ys) (before_all p k xs (omega arith)))
  | inr n ↦ let c = count_cons p x xs in rw n (ap (λ ys. x ∷ ys) (before_all p (suc k) xs (omega arith)))
]

all_at : (P : StampedEntry → Type 0) (xs : List StampedEntry) (k : ℕ) (m : StampedEntry) → AllByRecursion P xs → slice_get xs k ≡ Some m → P m
all_at P [] k m h e = absurd (cc)
all_at P (x ∷ xs) zero m h e = let same : x ≡ m = cc in subst P same h.0
all_at P (x ∷ xs) (suc k) m h e = all_at P xs k m h.1 e

nth_has : (P : StampedEntry → Type 0) (p : StampedEntry → Bool) (xs : List StampedEntry) (k : ℕ) (m : StampedEntry) → AllByRecursion P xs → slice_get (filter p xs) k ≡ Some m → P m
nth_has P p xs k m h e = all_at P (filter p xs) k m (all_filter P p xs h) e

-- nothing above a number is below it
none_under : (n : ℕ) (xs : List StampedEntry) → AllByRecursion (λ y. n < y.serial) xs → filter (λ s. nat_lt s.serial n) xs ≡ []
none_under n [] h = refl
none_under n (x ∷ xs) h = let le : n ≤ x.serial = omega (arith, h.0) in rw (lt_false x.serial n le) (none_under n xs h.1)

-- in a list in order, what stands before one that passes is what has a lesser serial
module _ (p : StampedEntry → Bool) (m : StampedEntry) where
  before_here : (x : StampedEntry) (xs : List StampedEntry) → AllByRecursion (λ y. x.serial < y.serial) xs → x ≡ m → [] ≡ filter (λ s. nat_lt s.serial m.serial) (x ∷ xs)
  before_here x xs h same =
      let self : nat_lt x.serial x.serial ≡ false = lt_false x.serial x.serial (omega arith) in
      subst (λ y. [] ≡ filter (λ s. nat_lt s.serial y.serial) (x ∷ xs)) same (rw self (sym (none_under x.serial xs h)))

  before_more : (k : ℕ) (x : StampedEntry) (xs : List StampedEntry) → AllByRecursion (λ y. x.serial < y.serial) xs → slice_get (filter p xs) k ≡ Some m
      → before_nth k p xs ≡ filter (λ s. nat_lt s.serial m.serial) xs → x ∷ before_nth k p xs ≡ filter (λ s. nat_lt s.serial m.serial) (x ∷ xs)
  before_more k x xs h e rest =
      let less : x.serial < m.serial = nth_has (λ y. x.serial < y.serial) p xs k m h e in
      rw (lt_true x.serial m.serial less) (ap (λ ys. x ∷ ys) rest)

  pub before_lesser : (k : ℕ) (xs : List StampedEntry) → Rising xs → slice_get (filter p xs) k ≡ Some m → before_nth k p xs ≡ filter (λ s. nat_lt s.serial m.serial) xs
  before_lesser k [] r e = absurd (cc)
  before_lesser zero (x ∷ xs) r e = elim (cases_Bool (p x)) [
    | inl y ↦ let g = rw y at e in let same : x ≡ m = cc in rw y (before_here x xs r.0 same)
    | inr n ↦ let g = rw n at e in rw n (before_more 0 x xs r.0 g (before_lesser 0 xs r.1 g))
  ]
  before_lesser (suc k) (x ∷ xs) r e = elim (cases_Bool (p x)) [
    | inl y ↦ let g = rw y at e in rw y (before_more k x xs r.0 g (before_lesser k xs r.1 g))
    | inr n ↦ let g = rw n at e in rw n (before_more (suc k) x xs r.0 g (before_lesser (suc k) xs r.1 g))
  ]

-- two tests count the same in either order
count_swap : (p q : StampedEntry → Bool) (xs : List StampedEntry) → count_by p (filter q xs) ≡ count_by q (filter p xs)
count_swap p q [] = refl
count_swap p q (x ∷ xs) = elim (cases_Bool (p x)) [
  | inl y ↦ elim (cases_Bool (q x)) [
    | inl z ↦ rw (y, z) (omega (arith, count_swap p q xs, count_cons p x (filter q xs), count_cons q x (filter p xs), ap one_if y, ap one_if z))
    | inr z ↦ rw (y, z) (omega (arith, count_swap p q xs, count_cons q x (filter p xs), ap one_if z))
  ]
  | inr n ↦ elim (cases_Bool (q x)) [
    | inl z ↦ rw (n, z) (omega (arith, count_swap p q xs, count_cons p x (filter q xs), ap one_if n))
    | inr z ↦ rw (n, z) (count_swap p q xs)
  ]
]

-- how many of a ring stand before an entry
pub counted_before : (rings : List (Buffer StampedEntry)) (all : List StampedEntry) (next a b k n : ℕ) (ring : Buffer StampedEntry) (m : StampedEntry) → IsMerged rings all next → a < 65
    → ring ≡ get_or rings a ring → slice_get (filter (is_in b) all) k ≡ Some m → n ≡ count_by (λ s. nat_lt s.serial m.serial) ring.items
    → n ≡ count_by (is_in a) (before_nth k (is_in b) all)
counted_before rings all next a b k n ring m merged h read found count =
    count
    ∙ (ap (λ c. count_by (λ s. nat_lt s.serial m.serial) c.items) read
    ∙ (ap (λ xs. count_by (λ s. nat_lt s.serial m.serial) xs) (merged.each a ring h)
    ∙ (count_swap (λ s. nat_lt s.serial m.serial) (is_in a) all
    ∙ ap (λ xs. count_by (is_in a) xs) (sym (before_lesser (is_in b) m k all merged.rising found)))))

-- an entry of a ring
pub nth_of : (rings : List (Buffer StampedEntry)) (all : List StampedEntry) (next r i : ℕ) (ring : Buffer StampedEntry) (found : StampedEntry) → IsMerged rings all next → r < 65
    → ring ≡ get_or rings r ring → i < count_by (is_in r) all → found ≡ get_or ring.items i found → slice_get (filter (is_in r) all) i ≡ Some found
nth_of rings all next r i ring found merged h read there is =
    let own : filter (is_in r) all ≡ ring.items = sym (ap (λ c. c.items) read ∙ merged.each r ring h) in
    let within : i < length ring.items = omega (arith, counted rings all next r ring merged h read) in
    ap (λ xs. slice_get xs i) own ∙ (slice_get-get_or ring.items i found within ∙ ap Some (sym is))

pub nth_within : (rings : List (Buffer StampedEntry)) (all : List StampedEntry) (next r i : ℕ) (ring : Buffer StampedEntry) → IsMerged rings all next → r < 65
    → ring ≡ get_or rings r ring → i < count_by (is_in r) all → i < length ring.items
nth_within rings all next r i ring merged h read there = omega (arith, counted rings all next r ring merged h read)
