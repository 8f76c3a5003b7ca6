-- Bits of a mask, one for each item of a list: the mask of a test over xs is mask_l (map test xs).
use Rattle.std.proofs.Common.{◌≡◌, ℕ, zero, suc, ◌+◌, ◌-◌, ◌*◌, ◌/◌, ◌%◌, ◌^◌, ◌<◌, ◌≤◌, Bool, true, false, cond, List, [], ◌∷◌, ◌++◌, length, take, drop, get_or, refl, sym, ◌∙◌, ap, arith, map, add-one}
use Rattle.std.specs.Prelude.{◌||◌, ◌&&◌, remove, bit_or, bit_and, max, min}
use Rattle.std.specs.Simd.Lanes.{mask_l}
use Rattle.std.specs.Int.{bit_at}
use Rattle.std.proofs.lemmas.Grind.{pow_more}
use Rattle.std.proofs.lemmas.List.{take-append-drop, length-take-le}
use Rattle.std.proofs.lemmas.Nat.{div-mul-add, mod-mul-add, one_shl, and_mask, or_shifted, or_disjoint, or_comm, pow_pos, shr_le, shr-shr}
use Rattle.std.proofs.Math.Nat.{mod-lt}
use Rattle.std.proofs.lemmas.Nat.Bits.{bit_at_or, bit_at_and, bit_at_above, and_pow, and_high_mask, same_from_bits}
use Rattle.std.proofs.lemmas.Simd.{mask_l-lt, bit_mask_l}
use Rattle.order_table.specs.Places.{without_place}

pow_more_suc : (n : ℕ) → 2 ^ suc n ≡ 2 ^ n * 2
pow_more_suc n = rw add-one at (pow_more 2 n)

pub mask-append : (us vs : List Bool) → mask_l (us ++ vs) ≡ mask_l vs * 2 ^ length us + mask_l us
mask-append [] vs = omega arith
mask-append (u ∷ us) vs = let h = mask-append us vs in rw (pow_more_suc (length us)) (omega (arith, h))

-- ---- one more place

pub one_more_bit : (us : List Bool) → bit_or (mask_l us) (2 ^ length us) ≡ mask_l (us ++ true ∷ [])
one_more_bit us =
    let none : bit_at (mask_l us) (length us) ≡ 0 = bit_at_above (mask_l us) (length us) (length us) (mask_l-lt us) (omega arith) in
    let apart : bit_and (mask_l us) (2 ^ length us) ≡ 0 = rw (and_pow (mask_l us) (length us), none) (omega arith) in
    rw (or_disjoint (mask_l us) (2 ^ length us) apart, mask-append us (true ∷ [])) (omega arith)

pub no_more_bit : (us : List Bool) → mask_l us ≡ mask_l (us ++ false ∷ [])
no_more_bit us = rw (mask-append us (false ∷ [])) (omega arith)

module _ {X : Type 0} (test : X → Bool) where
  map-push : (xs : List X) (x : X) → map test (xs ++ x ∷ []) ≡ map test xs ++ test x ∷ []
  map-push [] x = refl
  map-push (y ∷ xs) x = ap (λ (bs : List Bool). test y ∷ bs) (map-push xs x)

  length-tests : (xs : List X) → length (map test xs) ≡ length xs
  length-tests [] = refl
  length-tests (x ∷ xs) = ap suc (length-tests xs)

  pub place_added : (w : ℕ) (xs : List X) (x : X) (n : ℕ) → length xs ≡ n → n < w → test x ≡ true
      → bit_or (mask_l (map test xs)) (1 * 2 ^ n % 2 ^ w) ≡ mask_l (map test (xs ++ x ∷ []))
  place_added w xs x n len room passes =
      let long : length (map test xs) ≡ n = length-tests xs ∙ len in
      rw (one_shl n w room, map-push xs x, passes, ← long) (one_more_bit (map test xs))

  pub place_not_added : (xs : List X) (x : X) → test x ≡ false → mask_l (map test xs) ≡ mask_l (map test (xs ++ x ∷ []))
  place_not_added xs x fails = rw (map-push xs x, fails) (no_more_bit (map test xs))

-- ---- a place taken out

mask_around : (ms : List Bool) (i : ℕ) → i ≤ length ms → mask_l ms ≡ mask_l (drop i ms) * 2 ^ i + mask_l (take i ms)
mask_around ms i h = ap mask_l (sym (take-append-drop i ms)) ∙ (mask-append (take i ms) (drop i ms) ∙ ap (λ n. mask_l (drop i ms) * 2 ^ n + mask_l (take i ms)) (length-take-le i ms h))

low : (ms : List Bool) (i : ℕ) → i ≤ length ms → mask_l (take i ms) < 2 ^ i
low ms i h = rw (length-take-le i ms h) at (mask_l-lt (take i ms))

mask-take : (ms : List Bool) (i : ℕ) → i ≤ length ms → mask_l ms % 2 ^ i ≡ mask_l (take i ms)
mask-take ms i h = ap (λ n. n % 2 ^ i) (mask_around ms i h) ∙ mod-mul-add (mask_l (drop i ms)) (2 ^ i) (mask_l (take i ms)) (low ms i h)

mask-drop : (ms : List Bool) (i : ℕ) → i ≤ length ms → mask_l ms / 2 ^ i ≡ mask_l (drop i ms)
mask-drop ms i h = ap (λ n. n / 2 ^ i) (mask_around ms i h) ∙ div-mul-add (mask_l (drop i ms)) (2 ^ i) (mask_l (take i ms)) (low ms i h)

mask-remove : (ms : List Bool) (i : ℕ) → suc i ≤ length ms → without_place i (mask_l ms) ≡ mask_l (remove ms i)
mask-remove ms i h =
    let n : length (take i ms) ≡ i = length-take-le i ms (omega arith) in
    rw (mask-append (take i ms) (drop (suc i) ms), n, mask-drop ms (suc i) h, mask-take ms i (omega arith)) refl

map-remove : {X : Type 0} (test : X → Bool) (xs : List X) (i : ℕ) → remove (map test xs) i ≡ map test (remove xs i)
map-remove test [] zero = refl
map-remove test [] (suc i) = refl
map-remove test (x ∷ xs) zero = refl
map-remove test (x ∷ xs) (suc i) = ap (λ (bs : List Bool). test x ∷ bs) (map-remove test xs i)

pub place_removed : {X : Type 0} (test : X → Bool) (xs : List X) (i : ℕ) → i < length xs → without_place i (mask_l (map test xs)) ≡ mask_l (map test (remove xs i))
place_removed test xs i within =
    let long : length (map test xs) ≡ length xs = length-tests test xs in
    mask-remove (map test xs) i (omega arith) ∙ ap mask_l (map-remove test xs i)

-- as the code computes it
pub without_place_is : (w m i : ℕ) → m < 2 ^ w → i < w
    → bit_or (bit_and m (1 * 2 ^ i % 2 ^ w - 1)) (bit_and (m / 2 ^ 1) (2 ^ w - 1 - (1 * 2 ^ i % 2 ^ w - 1))) ≡ without_place i m
without_place_is w m i fits within =
    let positive = pow_pos i in
    let below : 2 ^ w - 1 - (2 ^ i - 1) ≡ 2 ^ w - 2 ^ i = omega (arith, positive) in
    let less = shr_le m 1 in
    let half : m / 2 ^ 1 < 2 ^ w = omega (arith, less) in
    let next : 1 + i ≡ suc i = omega arith in
    let shifted : m / 2 ^ 1 / 2 ^ i ≡ m / 2 ^ suc i = shr-shr m 1 i ∙ ap (λ (n : ℕ). m / 2 ^ n) next in
    let after : bit_and (m / 2 ^ 1) (2 ^ w - 2 ^ i) ≡ m / 2 ^ suc i * 2 ^ i = and_high_mask w i (omega arith) (m / 2 ^ 1) half ∙ ap (λ (n : ℕ). n * 2 ^ i) shifted in
    let before : m % 2 ^ i < 2 ^ i = mod-lt m positive in
    rw (one_shl i w within, below, and_mask m i, after, or_comm (m % 2 ^ i) (m / 2 ^ suc i * 2 ^ i)) (or_shifted (m / 2 ^ suc i) i (m % 2 ^ i) before)

-- ---- tests joined

abbrev one_if : Bool → ℕ
one_if b = cond b 1 0

max_ones : (a b : Bool) → max (one_if a) (one_if b) ≡ one_if (a || b)
max_ones true true = refl
max_ones true false = refl
max_ones false true = refl
max_ones false false = refl

min_ones : (a b : Bool) → min (one_if a) (one_if b) ≡ one_if (a && b)
min_ones true true = refl
min_ones true false = refl
min_ones false true = refl
min_ones false false = refl

module _ {X : Type 0} (p q : X → Bool) where
  either_at : (xs : List X) (i : ℕ) → get_or (map (λ x. p x || q x) xs) i false ≡ (get_or (map p xs) i false || get_or (map q xs) i false)
  either_at [] i = refl
  either_at (x ∷ xs) zero = refl
  either_at (x ∷ xs) (suc i) = either_at xs i

  both_at : (xs : List X) (i : ℕ) → get_or (map (λ x. p x && q x) xs) i false ≡ (get_or (map p xs) i false && get_or (map q xs) i false)
  both_at [] i = refl
  both_at (x ∷ xs) zero = refl
  both_at (x ∷ xs) (suc i) = both_at xs i

  pub mask-or : (xs : List X) → bit_or (mask_l (map p xs)) (mask_l (map q xs)) ≡ mask_l (map (λ x. p x || q x) xs)
  mask-or xs = same_from_bits _ _ (λ i. bit_at_or (mask_l (map p xs)) (mask_l (map q xs)) i ∙ (rw (bit_mask_l (map p xs) i, bit_mask_l (map q xs) i, bit_mask_l (map (λ x. p x || q x) xs) i, either_at xs i) (max_ones (get_or (map p xs) i false) (get_or (map q xs) i false))))

  pub mask-and : (xs : List X) → bit_and (mask_l (map p xs)) (mask_l (map q xs)) ≡ mask_l (map (λ x. p x && q x) xs)
  mask-and xs = same_from_bits _ _ (λ i. bit_at_and (mask_l (map p xs)) (mask_l (map q xs)) i ∙ (rw (bit_mask_l (map p xs) i, bit_mask_l (map q xs) i, bit_mask_l (map (λ x. p x && q x) xs) i, both_at xs i) (min_ones (get_or (map p xs) i false) (get_or (map q xs) i false))))

  pub mask_same : (xs : List X) → ((x : X) → p x ≡ q x) → mask_l (map p xs) ≡ mask_l (map q xs)
  mask_same xs e = λ i. mask_l (map (λ x. e x i) xs)
