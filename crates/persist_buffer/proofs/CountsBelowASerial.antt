-- How many entries of a list whose serials rise have serials below a number.
use Rattle.std.proofs.Common.{◌≡◌, ℕ, zero, suc, ◌+◌, ◌<◌, ◌≤◌, Bool, true, false, cond, List, [], ◌∷◌, length, get_or, ap, arith}
use Rattle.std.specs.Prelude.{nat_lt, count_by}
use Rattle.std.specs.List.{AllByRecursion}
use Rattle.std.proofs.lemmas.List.Sums.{sum_by-cons}
use Rattle.persist_buffer.specs.declared.ring.StampedEntry.{StampedEntry}
use Rattle.persist_buffer.specs.Rings.{Rising}
use Rattle.persist_buffer.proofs.ListsBySerial.{lt_true, lt_false, all_weaker}

abbrev pub one_if : Bool → ℕ
one_if b = cond b 1 0

one_at_most : (b : Bool) → one_if b ≤ 1
one_at_most true = omega arith
one_at_most false = omega arith

pub count_cons : (p : StampedEntry → Bool) (x : StampedEntry) (xs : List StampedEntry) → count_by p (x ∷ xs) ≡ one_if (p x) + count_by p xs
count_cons p x xs = sum_by-cons (λ v. one_if (p v)) x xs

above_at : (n : ℕ) (xs : List StampedEntry) (i : ℕ) (d : StampedEntry) → AllByRecursion (λ y. n < y.serial) xs → i < length xs → n < (get_or xs i d).serial
above_at n [] i d h l = absurd (omega (arith, l))
above_at n (x ∷ xs) zero d h l = h.0
above_at n (x ∷ xs) (suc i) d h l = above_at n xs i d h.1 (omega arith)

none_counted : (n : ℕ) (xs : List StampedEntry) → AllByRecursion (λ y. n < y.serial) xs → count_by (λ s. nat_lt s.serial n) xs ≡ 0
none_counted n [] h = omega arith
none_counted n (x ∷ xs) h =
    let c = count_cons (λ s. nat_lt s.serial n) x xs in
    let none : one_if (nat_lt x.serial n) ≡ 0 = ap one_if (lt_false x.serial n (omega (arith, h.0))) in
    omega (arith, none_counted n xs h.1)

past : (n : ℕ) (xs : List StampedEntry) (i : ℕ) (d : StampedEntry) → Rising xs → i < length xs → (get_or xs i d).serial < n → i + 1 ≤ count_by (λ s. nat_lt s.serial n) xs
past n [] i d r l low = absurd (omega (arith, l))
past n (x ∷ xs) zero d r l low =
    let c = count_cons (λ s. nat_lt s.serial n) x xs in
    let one : one_if (nat_lt x.serial n) ≡ 1 = ap one_if (lt_true x.serial n low) in
    omega arith
past n (x ∷ xs) (suc i) d r l low =
    let c = count_cons (λ s. nat_lt s.serial n) x xs in
    let more = above_at x.serial xs i d r.0 (omega (arith, l)) in
    let one : one_if (nat_lt x.serial n) ≡ 1 = ap one_if (lt_true x.serial n (omega arith)) in
    let rest = past n xs i d r.1 (omega (arith, l)) low in
    omega arith

up_to : (n : ℕ) (xs : List StampedEntry) (i : ℕ) (d : StampedEntry) → Rising xs → i < length xs → n ≤ (get_or xs i d).serial → count_by (λ s. nat_lt s.serial n) xs ≤ i
up_to n [] i d r l high = absurd (omega (arith, l))
up_to n (x ∷ xs) zero d r l high =
    let c = count_cons (λ s. nat_lt s.serial n) x xs in
    let none : one_if (nat_lt x.serial n) ≡ 0 = ap one_if (lt_false x.serial n high) in
    omega (arith, none_counted n xs (all_weaker (λ y. x.serial < y.serial) (λ y. n < y.serial) xs (λ y lt. omega arith) r.0))
up_to n (x ∷ xs) (suc i) d r l high =
    let c = count_cons (λ s. nat_lt s.serial n) x xs in
    let rest = up_to n xs i d r.1 (omega (arith, l)) high in
    omega (arith, one_at_most (nat_lt x.serial n))

-- an entry below the number is counted, and so are all that stand before it
pub counted_past : (n : ℕ) (xs : List StampedEntry) (i : ℕ) (e : StampedEntry) → Rising xs → i < length xs → e ≡ get_or xs i e → e.serial < n → i + 1 ≤ count_by (λ s. nat_lt s.serial n) xs
counted_past n xs i e r l at low = past n xs i e r l (omega (arith, ap (λ s. s.serial) at))

-- where an entry is not below the number, only those before it can be counted
pub counted_up_to : (n : ℕ) (xs : List StampedEntry) (i : ℕ) (e : StampedEntry) → Rising xs → i < length xs → e ≡ get_or xs i e → n ≤ e.serial → count_by (λ s. nat_lt s.serial n) xs ≤ i
counted_up_to n xs i e r l at high = up_to n xs i e r l (omega (arith, ap (λ s. s.serial) at))
