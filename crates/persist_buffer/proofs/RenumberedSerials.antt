-- Serials that move down keep their order.
use Rattle.std.proofs.Common.{◌≡◌, ℕ, suc, ◌+◌, ◌-◌, ◌*◌, ◌^◌, ◌<◌, ◌≤◌, Bool, true, false, cond, List, [], ◌∷◌, ◌++◌, length, take, drop, get_or, refl, sym, ◌∙◌, ap, arith, inl, inr, ◌⊎◌, length-append, length-drop, append_assoc, map}
use Rattle.std.specs.Prelude.{nat_lt, nat_le, ◌==◌, ◌||◌, filter, count_by}
use Rattle.std.specs.List.{AllByRecursion, list_any, fold}
use Rattle.std.proofs.lemmas.List.{map-append, length-map, get_or-map, drop_more, map_more, length-take-le}
use Rattle.std.proofs.lemmas.List.Sums.{count_by-le-length}
use Rattle.std.proofs.lemmas.Bool.{cases_Bool, cases_lt, ltb-true}
use Rattle.std.proofs.lemmas.Bool.Decides.{nat_tests}
use Rattle.circular_buffer.specs.Buffer.{Buffer}
use Rattle.persist_buffer.specs.declared.ring.StampedEntry.{StampedEntry}
use Rattle.persist_buffer.specs.Rings.{is_in, placed, by_serial, joined, merged, entries, Rising, IsMerged}
use Rattle.persist_buffer.specs.Renumbering.{lowered, shifted, shifted_ring, Clear, lesser, IsLeast}
use Rattle.persist_buffer.proofs.ListsBySerial.{Below, lt_true, lt_false, all_sorted, all_weaker, all_to_sorted}
use Rattle.persist_buffer.proofs.CountsBelowASerial.{one_if, count_cons}

abbrev Off : ℕ → ℕ → StampedEntry → Type 0
Off from gap s = (s.serial < from) ⊎ (from + gap ≤ s.serial)

lowered_low : (from gap n : ℕ) → n < from → lowered from gap n ≡ n
lowered_low from gap n h = rw (lt_true n from h) refl

lowered_high : (from gap n : ℕ) → from ≤ n → lowered from gap n ≡ n - gap
lowered_high from gap n h = rw (lt_false n from h) refl

same_test : (a b c d : ℕ) → (a < b → c < d) → (b ≤ a → d ≤ c) → nat_lt c d ≡ nat_lt a b
same_test a b c d f g = elim (cases_lt a b) [ inl lt ↦ rw (lt_true a b lt) (lt_true c d (f lt)) | inr ge ↦ rw (lt_false a b ge) (lt_false c d (g ge)) ]

same_order : (from gap : ℕ) (a b : StampedEntry) → Off from gap a → Off from gap b → nat_lt (shifted from gap a).serial (shifted from gap b).serial ≡ nat_lt a.serial b.serial
same_order from gap a b ha hb = elim ha [
  | inl la ↦ elim hb [
    | inl lb ↦ rw (lowered_low from gap a.serial la, lowered_low from gap b.serial lb) refl
    | inr gb ↦ rw (lowered_low from gap a.serial la, lowered_high from gap b.serial (omega arith)) (same_test a.serial b.serial a.serial (b.serial - gap) (λ l. omega arith) (λ l. omega arith))
  ]
  | inr ga ↦ elim hb [
    | inl lb ↦ rw (lowered_high from gap a.serial (omega arith), lowered_low from gap b.serial lb) (same_test a.serial b.serial (a.serial - gap) b.serial (λ l. omega arith) (λ l. omega arith))
    | inr gb ↦ rw (lowered_high from gap a.serial (omega arith), lowered_high from gap b.serial (omega arith)) (same_test a.serial b.serial (a.serial - gap) (b.serial - gap) (λ l. omega arith) (λ l. omega arith))
  ]
]

placed-map : (from gap : ℕ) (e : StampedEntry) (xs : List StampedEntry) → Off from gap e → Clear from gap xs → placed (shifted from gap e) (map (shifted from gap) xs) ≡ map (shifted from gap) (placed e xs)
placed-map from gap e [] h k = refl
placed-map from gap e (x ∷ xs) h k = elim (cases_lt e.serial x.serial) [
  | inl lt ↦ rw (same_order from gap e x h k.0, lt_true e.serial x.serial lt) refl
  | inr ge ↦ rw (same_order from gap e x h k.0, lt_false e.serial x.serial ge) (ap (λ ys. shifted from gap x ∷ ys) (placed-map from gap e xs h k.1))
]

by_serial-map : (from gap : ℕ) (xs : List StampedEntry) → Clear from gap xs → by_serial (map (shifted from gap) xs) ≡ map (shifted from gap) (by_serial xs)
by_serial-map from gap [] h = refl
by_serial-map from gap (x ∷ xs) h = rw (by_serial-map from gap xs h.1) (placed-map from gap x (by_serial xs) h.0 (all_to_sorted (Off from gap) xs h.1))

joined-map : (from gap : ℕ) (rings : List (Buffer StampedEntry)) → joined (map (shifted_ring from gap) rings) ≡ map (shifted from gap) (joined rings)
joined-map from gap [] = refl
joined-map from gap (b ∷ bs) = rw (joined-map from gap bs) (sym (map-append (shifted from gap) b.items (joined bs)))

merged-map : (from gap : ℕ) (rings : List (Buffer StampedEntry)) → Clear from gap (merged rings) → merged (map (shifted_ring from gap) rings) ≡ map (shifted from gap) (merged rings)
unfolding merged
merged-map from gap rings h = rw (joined-map from gap rings) (by_serial-map from gap (joined rings) (all_sorted (Off from gap) (joined rings) h))

below_one : {a b : ℕ} → nat_lt a b ≡ true → a < b
below_one {a} {b} h = ltb-true a b h

all_above-map : (from gap : ℕ) (x : StampedEntry) (ys : List StampedEntry) → Off from gap x → Clear from gap ys → AllByRecursion (λ y. x.serial < y.serial) ys → AllByRecursion (λ y. (shifted from gap x).serial < y.serial) (map (shifted from gap) ys)
all_above-map from gap x [] hx h k = tt
all_above-map from gap x (y ∷ ys) hx h k = (below_one (same_order from gap x y hx h.0 ∙ lt_true x.serial y.serial k.0), all_above-map from gap x ys hx h.1 k.1)

rising-map : (from gap : ℕ) (xs : List StampedEntry) → Clear from gap xs → Rising xs → Rising (map (shifted from gap) xs)
rising-map from gap [] h r = tt
rising-map from gap (x ∷ xs) h r = (all_above-map from gap x xs h.0 h.1 r.0, rising-map from gap xs h.1 r.1)

lowered_le : (from gap n : ℕ) → lowered from gap n ≤ n
lowered_le from gap n = elim (cases_lt n from) [ inl l ↦ rw (lowered_low from gap n l) (omega arith) | inr g ↦ rw (lowered_high from gap n g) (omega arith) ]

below-map : (from gap next : ℕ) (xs : List StampedEntry) → Below next xs → Below next (map (shifted from gap) xs)
below-map from gap next [] h = tt
below-map from gap next (x ∷ xs) h = (let le = lowered_le from gap x.serial in let lt = h.0 in omega arith, below-map from gap next xs h.1)

filter-map : (from gap r : ℕ) (xs : List StampedEntry) → map (shifted from gap) (filter (is_in r) xs) ≡ filter (is_in r) (map (shifted from gap) xs)
filter-map from gap r [] = refl
filter-map from gap r (x ∷ xs) = elim (cases_Bool (is_in r x)) [ inl y ↦ simp (y, filter-map from gap r xs) | inr n ↦ simp (n, filter-map from gap r xs) ]

pub entries-map : (from gap : ℕ) (xs : List StampedEntry) → entries (map (shifted from gap) xs) ≡ entries xs
entries-map from gap [] = refl
entries-map from gap (x ∷ xs) = ap (λ ys. x.entry ∷ ys) (entries-map from gap xs)

mapped_at : (from gap : ℕ) (rings : List (Buffer StampedEntry)) (r : ℕ) (d : Buffer StampedEntry) → r < length rings → get_or (map (shifted_ring from gap) rings) r d ≡ shifted_ring from gap (get_or rings r d)
mapped_at from gap rings r d h = get_or-map (shifted_ring from gap) rings r d d h

-- all serials moved down past a gap
pub moved : (rings : List (Buffer StampedEntry)) (all : List StampedEntry) (next from gap : ℕ) → IsMerged rings all next → Clear from gap all → IsMerged (map (shifted_ring from gap) rings) (map (shifted from gap) all) next
moved rings all next from gap m h =
    let at : (r : ℕ) (d : Buffer StampedEntry) → r < 65 → get_or (map (shifted_ring from gap) rings) r d ≡ shifted_ring from gap (get_or rings r d) = λ r d k. mapped_at from gap rings r d (omega (arith, m.count)) in
    record {
      merges = merged-map from gap rings (rw m.merges h) ∙ ap (map (shifted from gap)) m.merges;
      count = length-map rings (shifted_ring from gap) ∙ m.count;
      rising = rising-map from gap all h m.rising;
      below = below-map from gap next all m.below;
      room = λ r d k. rw (at r d k) (m.room r d k);
      sizes = λ r d k. rw (at r d k, length-map (get_or rings r d).items (shifted from gap)) (m.sizes r d k);
      each = λ r d k. rw (at r d k) (ap (map (shifted from gap)) (m.each r d k) ∙ filter-map from gap r all);
      bound = m.bound;
    }

-- one turn of a ring
pub rotated : {X : Type 0} (f : X → X) (xs : List X) (i : ℕ) (x : X) (ys : List X) → i < length xs → x ∷ ys ≡ drop i xs ++ map f (take i xs) → ys ++ f x ∷ [] ≡ drop (i + 1) xs ++ map f (take (i + 1) xs)
rotated f xs i x ys h e =
    let cut = drop_more xs i x h in
    let both : x ∷ ys ≡ get_or xs i x ∷ (drop (i + 1) xs ++ map f (take i xs)) = e ∙ ap (λ zs. zs ++ map f (take i xs)) cut in
    let head : x ≡ get_or xs i x = cc in
    let tail : ys ≡ drop (i + 1) xs ++ map f (take i xs) = cc in
    rw (map_more f xs i x h, ← head, tail) (append_assoc (drop (i + 1) xs) (map f (take i xs)) (f x ∷ []))

rotated_full : {X : Type 0} (f : X → X) (xs : List X) (i : ℕ) (zs : List X) → i < length xs → zs ≡ drop i xs ++ map f (take i xs) → length zs ≡ length xs
rotated_full f xs i zs h e = omega (arith, ap length e, length-append (drop i xs) (map f (take i xs)), length-drop i xs, length-map (take i xs) f, length-take-le i xs (omega arith))

pub rotated_length : {X : Type 0} (f : X → X) (xs : List X) (i : ℕ) (x : X) (ys : List X) → i < length xs → x ∷ ys ≡ drop i xs ++ map f (take i xs) → length ys < length xs
rotated_length f xs i x ys h e = let n : length (x ∷ ys) ≡ length xs = rotated_full f xs i (x ∷ ys) h e in omega arith

-- the least serial that is left
lesser_le : (from n : ℕ) (s : StampedEntry) → lesser from n s ≤ n
lesser_le from n s = grind (arith, nat_tests)

lesser_cases : (from n : ℕ) (s : StampedEntry) → (lesser from n s ≡ n) ⊎ ((lesser from n s ≡ s.serial) × (from ≤ s.serial))
lesser_cases from n s = elim (cases_lt s.serial from) [
  | inl low ↦ let t : nat_le from s.serial ≡ false = grind (arith, nat_tests) in inl (simp t)
  | inr high ↦ let t : nat_le from s.serial ≡ true = grind (arith, nat_tests) in elim (cases_lt s.serial n) [
    | inl lt ↦ inr (simp (t, lt_true s.serial n lt), high)
    | inr ge ↦ inl (simp (t, lt_false s.serial n ge))
  ]
]

lesser_off : (from n : ℕ) (s : StampedEntry) → (s.serial < from) ⊎ (lesser from n s ≤ s.serial)
lesser_off from n s = elim (cases_lt s.serial from) [
  | inl low ↦ inl low
  | inr high ↦ inr (grind (arith, nat_tests))
]

fold_le : (from n : ℕ) (xs : List StampedEntry) → fold (lesser from) n xs ≤ n
fold_le from n [] = omega arith
fold_le from n (x ∷ xs) = let a = fold_le from (lesser from n x) xs in let b = lesser_le from n x in omega arith

off_less : (from a b : ℕ) (s : StampedEntry) → b ≤ a → (s.serial < from) ⊎ (a ≤ s.serial) → (s.serial < from) ⊎ (b ≤ s.serial)
off_less from a b s h (inl low) = inl low
off_less from a b s h (inr high) = inr (omega arith)

fold_above : (from n : ℕ) (xs : List StampedEntry) → AllByRecursion (λ s. (s.serial < from) ⊎ (fold (lesser from) n xs ≤ s.serial)) xs
fold_above from n [] = tt
fold_above from n (x ∷ xs) = (off_less from (lesser from n x) (fold (lesser from) (lesser from n x) xs) x (fold_le from (lesser from n x) xs) (lesser_off from n x), fold_above from (lesser from n x) xs)

eq_true : (a b : ℕ) → a ≡ b → (a == b) ≡ true
eq_true a b h = grind (arith, nat_tests)

or_right : (a b : Bool) → b ≡ true → (a || b) ≡ true
or_right true b h = refl
or_right false b h = h

fold_there : (from n : ℕ) (xs : List StampedEntry) → (fold (lesser from) n xs ≡ n) ⊎ ((from ≤ fold (lesser from) n xs) × (list_any (λ s. s.serial == fold (lesser from) n xs) xs ≡ true))
fold_there from n [] = inl refl
fold_there from n (x ∷ xs) =
    let m : ℕ = fold (lesser from) (lesser from n x) xs in
    elim (fold_there from (lesser from n x) xs) [
      | inl same ↦ elim (lesser_cases from n x) [
        | inl kept ↦ inl (same ∙ kept)
        | inr new ↦
            let is : x.serial ≡ m = sym (same ∙ new.0) in
            let high = new.1 in
            inr (omega arith, simp (eq_true x.serial m is))
      ]
      | inr found ↦ inr (found.0, or_right (x.serial == m) (list_any (λ s. s.serial == m) xs) found.1)
    ]

any_placed : (p : StampedEntry → Bool) (e : StampedEntry) (xs : List StampedEntry) → (p e || list_any p xs) ≡ true → list_any p (placed e xs) ≡ true
any_placed p e [] h = h
any_placed p e (x ∷ xs) h = elim (nat_lt e.serial x.serial) as (λ b. list_any p (cond b (e ∷ x ∷ xs) (x ∷ placed e xs)) ≡ true) [
  | true ↦ h
  | false ↦ elim (cases_Bool (p x)) [
    | inl y ↦ simp y
    | inr n ↦ let g = rw n at h in or_right (p x) (list_any p (placed e xs)) (any_placed p e xs g)
  ]
]

any_sorted : (p : StampedEntry → Bool) (xs : List StampedEntry) → list_any p xs ≡ true → list_any p (by_serial xs) ≡ true
any_sorted p [] h = h
any_sorted p (x ∷ xs) h = any_placed p x (by_serial xs) (elim (cases_Bool (p x)) [ inl y ↦ simp y | inr n ↦ or_right (p x) (list_any p (by_serial xs)) (any_sorted p xs (rw n at h)) ])

pub least_is : (rings : List (Buffer StampedEntry)) (from s : ℕ) → s ≡ fold (lesser from) (2 ^ 63) (joined rings) → IsLeast (merged rings) from s
unfolding merged
least_is rings from s e = rw e (record {
  above = all_to_sorted (λ x. (x.serial < from) ⊎ (fold (lesser from) (2 ^ 63) (joined rings) ≤ x.serial)) (joined rings) (fold_above from (2 ^ 63) (joined rings));
  there = elim (fold_there from (2 ^ 63) (joined rings)) [ inl same ↦ inl same | inr found ↦ inr (found.0, any_sorted (λ x. x.serial == fold (lesser from) (2 ^ 63) (joined rings)) (joined rings) found.1) ];
})

-- how many there can be
placed-length : (e : StampedEntry) (xs : List StampedEntry) → length (placed e xs) ≡ suc (length xs)
placed-length e [] = refl
placed-length e (x ∷ xs) = elim (nat_lt e.serial x.serial) as (λ b. length (cond b (e ∷ x ∷ xs) (x ∷ placed e xs)) ≡ suc (suc (length xs))) [ true ↦ refl | false ↦ ap suc (placed-length e xs) ]

sorted-length : (xs : List StampedEntry) → length (by_serial xs) ≡ length xs
sorted-length [] = refl
sorted-length (x ∷ xs) = placed-length x (by_serial xs) ∙ ap suc (sorted-length xs)

joined_few : (rings : List (Buffer StampedEntry)) → ((r : ℕ) (d : Buffer StampedEntry) → r < length rings → length (get_or rings r d).items ≤ 256) → length (joined rings) ≤ length rings * 256
joined_few [] h = omega arith
joined_few (b ∷ bs) h =
    let one : length b.items ≤ 256 = h 0 b (omega arith) in
    let rest = joined_few bs (λ r d k. h (suc r) d (omega arith)) in
    omega (arith, length-append b.items (joined bs))

merged_few : (rings : List (Buffer StampedEntry)) → ((r : ℕ) (d : Buffer StampedEntry) → r < length rings → length (get_or rings r d).items ≤ 256) → length (merged rings) ≤ length rings * 256
unfolding merged
merged_few rings h = let a = joined_few rings h in let b = sorted-length (joined rings) in omega arith

few : (rings : List (Buffer StampedEntry)) (all : List StampedEntry) (next : ℕ) → IsMerged rings all next → length (merged rings) ≤ 16640
few rings all next m = let a = merged_few rings (λ r d k. m.sizes r d (omega (arith, m.count))) in let n = m.count in omega arith

-- each pass numbers one more
one_pass : (from gap n : ℕ) → (n < from) ⊎ (from + gap ≤ n) → one_if (nat_lt n from) + one_if (n == from + gap) ≤ one_if (nat_lt (lowered from gap n) (from + 1))
one_pass from gap n (inl low) = rw (lowered_low from gap n low) (grind (arith, nat_tests))
one_pass from gap n (inr high) = rw (lowered_high from gap n (omega arith)) (grind (arith, nat_tests))

or_ones : (a b : Bool) → one_if (a || b) ≤ one_if a + one_if b
or_ones true true = omega arith
or_ones true false = omega arith
or_ones false true = omega arith
or_ones false false = omega arith

counted_pass : (from gap : ℕ) (xs : List StampedEntry) → Clear from gap xs → count_by (λ s. nat_lt s.serial from) xs + one_if (list_any (λ s. s.serial == from + gap) xs) ≤ count_by (λ s. nat_lt s.serial (from + 1)) (map (shifted from gap) xs)
counted_pass from gap [] h = omega arith
counted_pass from gap (x ∷ xs) h =
    omega (arith, counted_pass from gap xs h.1, one_pass from gap x.serial h.0, or_ones (x.serial == from + gap) (list_any (λ s. s.serial == from + gap) xs), count_cons (λ s. nat_lt s.serial from) x xs, count_cons (λ s. nat_lt s.serial (from + 1)) (shifted from gap x) (map (shifted from gap) xs))

counted_more : (from gap least : ℕ) (xs : List StampedEntry) → Clear from gap xs → least ≡ from + gap → list_any (λ s. s.serial == least) xs ≡ true → from ≤ count_by (λ s. nat_lt s.serial from) xs → from + 1 ≤ count_by (λ s. nat_lt s.serial (from + 1)) (map (shifted from gap) xs)
counted_more from gap least xs h e t n =
    let u : list_any (λ s. s.serial == from + gap) xs ≡ true = rw (← e) t in
    let one : one_if (list_any (λ s. s.serial == from + gap) xs) ≡ 1 = ap one_if u in
    omega (arith, counted_pass from gap xs h)

below_here : (from least next n : ℕ) → next ≤ least → (n < from) ⊎ (least ≤ n) → n < next → n < from
below_here from least next n l (inl low) b = low
below_here from least next n l (inr high) b = absurd (omega arith)

below_from : (from least next : ℕ) (xs : List StampedEntry) → next ≤ least → AllByRecursion (λ s. (s.serial < from) ⊎ (least ≤ s.serial)) xs → Below next xs → Below from xs
below_from from least next [] l h b = tt
below_from from least next (x ∷ xs) l h b = (below_here from least next x.serial l h.0 b.0, below_from from least next xs l h.1 b.1)

pub renumbered : (rings : List (Buffer StampedEntry)) (all : List StampedEntry) (next from least : ℕ) → IsMerged rings all next → IsLeast all from least → 2 ^ 63 ≤ least → from ≤ 2 ^ 63 → IsMerged rings all from
renumbered rings all next from least m l high small = record {
  merges = m.merges;
  count = m.count;
  rising = m.rising;
  below = below_from from least next all (omega (arith, m.bound)) l.above m.below;
  room = m.room;
  sizes = m.sizes;
  each = m.each;
  bound = small;
}

gap_found : (all : List StampedEntry) (from least : ℕ) → IsLeast all from least → least < 2 ^ 63 → (from ≤ least) × (list_any (λ s. s.serial == least) all ≡ true)
gap_found all from least l h = elim l.there [ inl same ↦ absurd (omega arith) | inr found ↦ found ]

off_gap : (from least n : ℕ) → from ≤ least → (n < from) ⊎ (least ≤ n) → (n < from) ⊎ (from + (least - from) ≤ n)
off_gap from least n h (inl low) = inl low
off_gap from least n h (inr high) = inr (omega arith)

pub gap_clear : (all : List StampedEntry) (from least : ℕ) → IsLeast all from least → least < 2 ^ 63 → Clear from (least - from) all
gap_clear all from least l h = let f = (gap_found all from least l h).0 in all_weaker (λ s. (s.serial < from) ⊎ (least ≤ s.serial)) (Off from (least - from)) all (λ s o. off_gap from least s.serial f o) l.above

pub one_more : (all : List StampedEntry) (from least : ℕ) → IsLeast all from least → least < 2 ^ 63 → from ≤ count_by (λ s. nat_lt s.serial from) all → from + 1 ≤ count_by (λ s. nat_lt s.serial (from + 1)) (map (shifted from (least - from)) all)
one_more all from least l h n =
    let found = gap_found all from least l h in
    let f = found.0 in
    counted_more from (least - from) least all (gap_clear all from least l h) (omega arith) found.1 n

pub small_from : (rings : List (Buffer StampedEntry)) (all : List StampedEntry) (next from : ℕ) → IsMerged rings all next → from ≤ count_by (λ s. nat_lt s.serial from) (merged rings) → from ≤ 16640
small_from rings all next from m n = let a = few rings all next m in let b = count_by-le-length (λ s. nat_lt s.serial from) (merged rings) in omega arith

-- rising serials from a on and below n are no more than n - a
rising_room : (a n : ℕ) (xs : List StampedEntry) → a ≤ n → AllByRecursion (λ y. a ≤ y.serial) xs → Rising xs → Below n xs → a + length xs ≤ n
rising_room a n [] h f r b = omega arith
rising_room a n (x ∷ xs) h f r b =
    let low = f.0 in
    let high = b.0 in
    let rest = rising_room (a + 1) n xs (omega arith) (all_weaker (λ y. x.serial < y.serial) (λ y. a + 1 ≤ y.serial) xs (λ y l. omega arith) r.0) r.1 b.1 in
    omega arith

all_from_none : (xs : List StampedEntry) → AllByRecursion (λ y. 0 ≤ y.serial) xs
all_from_none [] = tt
all_from_none (x ∷ xs) = (omega arith, all_from_none xs)

pub numbers_all : (rings : List (Buffer StampedEntry)) (all : List StampedEntry) (from : ℕ) → IsMerged rings all from → from ≤ count_by (λ s. nat_lt s.serial from) all → from ≡ length all
numbers_all rings all from m n =
    let room = rising_room 0 from all (omega arith) (all_from_none all) m.rising m.below in
    let most = count_by-le-length (λ s. nat_lt s.serial from) all in
    omega arith
