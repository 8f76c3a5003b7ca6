-- The numbers that a mask has.
use Rattle.std.proofs.Common.{◌≡◌, ◌≢◌, ℕ, zero, suc, ◌+◌, ◌-◌, ◌*◌, ◌/◌, ◌%◌, ◌^◌, ◌<◌, ◌≤◌, Bool, true, false, cond, List, [], ◌∷◌, length, drop, map, refl, sym, ap, ◌∙◌, arith, inl, inr, add-one}
use Rattle.std.specs.Prelude.{bit_and, nat_lt, ◌&&◌, ◌==◌}
use Rattle.std.specs.Int.{bit_at, trailing_zeros, w128}
use Rattle.std.specs.Int.RustNames.{count_ones}
use Rattle.std.specs.List.{filter, range_with_len}
use Rattle.std.specs.Simd.Lanes.{mask_l}
use Rattle.std.proofs.lemmas.Bool.{cases_Bool, eqb-true}
use Rattle.std.proofs.lemmas.Bool.Decides.{nat_tests}
use Rattle.std.proofs.lemmas.List.{length-drop}
use Rattle.std.proofs.lemmas.List.FromFn.{get_or-map-range_with_len, length-map-range_with_len}
use Rattle.std.proofs.lemmas.List.Sums.{length-filter}
use Rattle.std.proofs.lemmas.Grind.{pow_more}
use Rattle.std.proofs.lemmas.Nat.{div-add-mod', pow_pos}
use Rattle.std.proofs.Math.Nat.{mod-lt}
use Rattle.std.proofs.lemmas.Nat.Bits.{bit_at_and, bit_at-lt, bit_at-trailing_zeros, bit_at_above, bit_at_cat_low, bit_at_cat_high, bit_at_ones_above, bit_at-pow_same, bit_at-pow_other, bit_at-zero, same_from_bits_below}
use Rattle.std.proofs.lemmas.Simd.{bit_mask_l, mask_l-lt, ones-mask_l}
use Rattle.machine.specs.Accepted.{mask_below}
use Rattle.schedule.specs.Masks.{has_number, mask_room, numbers_in}

-- ---- a filter of numbers

none_within : (p : ℕ → Bool) (a w : ℕ) → ((i : ℕ) → a ≤ i → i < a + w → p i ≡ false) → filter p (range_with_len a w) ≡ []
none_within p a zero none = refl
none_within p a (suc w) none = rw (none a (omega arith) (omega arith)) (none_within p (a + 1) w (λ i low high. none i (omega (arith, low)) (omega (arith, high))))

same_from : (p q : ℕ → Bool) (a w : ℕ) → ((i : ℕ) → a ≤ i → p i ≡ q i) → filter p (range_with_len a w) ≡ filter q (range_with_len a w)
same_from p q a zero same = refl
same_from p q a (suc w) same = rw (same a (omega arith), same_from p q (a + 1) w (λ i low. same i (omega (arith, low)))) refl

-- the first number that passes, and those that pass behind it
first_within : (p q : ℕ → Bool) (t a w : ℕ) → a ≤ t → t < a + w → ((i : ℕ) → i < t → p i ≡ false) → p t ≡ true → ((i : ℕ) → i ≤ t → q i ≡ false)
    → ((i : ℕ) → t < i → p i ≡ q i) → filter p (range_with_len a w) ≡ t ∷ filter q (range_with_len a w)
first_within p q t a zero low high before here gone behind = absurd (omega (arith, low, high))
first_within p q t a (suc w) low high before here gone behind =
    elim (cases_Bool (a == t)) [
      | inl at ↦
          let same : a ≡ t = eqb-true a t at in
          rw (same, here, gone t (omega arith)) (ap (λ l. t ∷ l) (same_from p q (t + 1) w (λ i more. behind i (omega (arith, more)))))
      | inr on ↦
          let less : a < t = grind (arith, nat_tests, on, low) in
          rw (before a less, gone a (omega (arith, less))) (first_within p q t (a + 1) w (omega (arith, less)) (omega (arith, high)) before here gone behind)
    ]

-- a test that is another below b, and fails from there on
below : (p test : ℕ → Bool) (b a n w : ℕ) → a + n ≡ b → ((i : ℕ) → p i ≡ (nat_lt i b && test i)) → ((i : ℕ) → a + w ≤ i → p i ≡ false)
    → filter p (range_with_len a w) ≡ filter test (range_with_len a n)
below p test b a zero w end is past =
    none_within p a w (λ i low high. let over : nat_lt i b ≡ false = grind (arith, nat_tests, end, low) in rw over at (is i))
below p test b a (suc n) zero end is past =
    sym (none_within test a (suc n) (λ i low high.
    let under : nat_lt i b ≡ true = grind (arith, nat_tests, end, high) in
    let told : p i ≡ test i = rw under at (is i) in
    sym told ∙ past i (omega (arith, low))))
below p test b a (suc n) (suc w) end is past =
    let under : nat_lt a b ≡ true = grind (arith, nat_tests, end) in
    let told : p a ≡ test a = rw under at (is a) in
    rw (told, below p test b (a + 1) n w (omega (arith, end)) is (λ i low. past i (omega (arith, low)))) refl

-- ---- how many

bit_as_test : (mask i : ℕ) → cond (has_number mask i) 1 0 ≡ bit_at mask i
bit_as_test mask i =
    let low = bit_at-lt mask i in
    elim (cases_Bool (has_number mask i)) [
      | inl set ↦ let one : bit_at mask i ≡ 1 = eqb-true (bit_at mask i) 1 set in rw (set, one) refl
      | inr not_set ↦ let other : bit_at mask i ≢ 1 = grind (arith, nat_tests, not_set) in let none : bit_at mask i ≡ 0 = omega (arith, low, other) in rw (not_set, none) refl
    ]

module _ (w mask : ℕ) (fits : mask < 2 ^ w) where
  told : mask ≡ mask_l (map (has_number mask) (range_with_len 0 w))
  told =
      let long : length (map (has_number mask) (range_with_len 0 w)) ≡ w = length-map-range_with_len (has_number mask) 0 w in
      same_from_bits_below w mask (mask_l (map (has_number mask) (range_with_len 0 w))) fits (rw long at (mask_l-lt (map (has_number mask) (range_with_len 0 w))))
      (λ i low. sym (bit_mask_l (map (has_number mask) (range_with_len 0 w)) i ∙ (ap (λ b. cond b 1 0) (get_or-map-range_with_len (has_number mask) 0 w i i false low (omega arith)) ∙ bit_as_test mask i)))

  counted_below : count_ones mask ≡ length (filter (has_number mask) (range_with_len 0 w))
  counted_below =
      ap count_ones told ∙ (ones-mask_l (has_number mask) (range_with_len 0 w) ∙ sym (length-filter (has_number mask) (range_with_len 0 w)))

pub counted : (mask : ℕ) → mask < 2 ^ mask_room → count_ones mask ≡ length (numbers_in mask)
unfolding numbers_in
counted mask fits = counted_below mask_room mask fits

pub filtered_fewer : (p : ℕ → Bool) (a w : ℕ) → length (filter p (range_with_len a w)) ≤ w
filtered_fewer p a zero = omega arith
filtered_fewer p a (suc w) =
    let rest = filtered_fewer p (a + 1) w in
    elim (cases_Bool (p a)) [ inl passes ↦ rw passes (omega (arith, rest)) | inr fails ↦ rw fails (omega (arith, rest)) ]

pub at_most : (mask : ℕ) → length (numbers_in mask) ≤ mask_room
unfolding numbers_in
at_most mask = filtered_fewer (has_number mask) 0 mask_room

-- ---- the lowest goes

module _ (mask : ℕ) (some : 0 < mask) (fits : mask < 2 ^ mask_room) where
  abbrev t : ℕ
  t = trailing_zeros w128 mask

  abbrev lower : ℕ
  lower = mask % 2 ^ suc t

  abbrev upper : ℕ
  upper = mask / 2 ^ suc t

  parts : upper * 2 ^ suc t + lower ≡ mask
  parts = div-add-mod' mask (2 ^ suc t)

  twice : 2 ^ suc t ≡ 2 ^ t * 2
  twice = rw add-one at (pow_more 2 t)

  lower_bit : (i : ℕ) → i < suc t → bit_at lower i ≡ bit_at mask i
  lower_bit i low = sym (bit_at_cat_low upper (suc t) lower i low) ∙ ap (λ n. bit_at n i) parts

  lower_is : lower ≡ 2 ^ t
  lower_is =
      let is = bit_at-trailing_zeros w128 mask some fits in
      let half = pow_pos t in
      same_from_bits_below (suc t) lower (2 ^ t) (mod-lt mask (pow_pos (suc t))) (rw twice (omega (arith, half)))
      (λ i low.
      elim (cases_Bool (i == t)) [
        | inl at ↦
            let same : i ≡ t = eqb-true i t at in
            lower_bit i low ∙ rw same (is.1 ∙ sym (bit_at-pow_same t))
        | inr off ↦
            let apart : i ≢ t = grind (arith, nat_tests, off) in
            lower_bit i low ∙ (is.2 i (omega (arith, low, apart)) ∙ sym (bit_at-pow_other t i apart))
      ])

  one_less : mask - 1 ≡ upper * 2 ^ suc t + (2 ^ t - 1)
  one_less = let half = pow_pos t in let whole : upper * 2 ^ suc t + 2 ^ t ≡ mask = rw lower_is at parts in omega (arith, half, whole)

  bit_above : (i : ℕ) → t < i → bit_at (mask - 1) i ≡ bit_at mask i
  bit_above i high =
      let half = pow_pos t in
      let whole : upper * 2 ^ suc t + 2 ^ t ≡ mask = rw lower_is at parts in
      let small : 2 ^ t - 1 < 2 ^ suc t = rw twice (omega (arith, half)) in
      let fit : 2 ^ t < 2 ^ suc t = rw twice (omega (arith, half)) in
      ap (λ n. bit_at n i) one_less ∙ (bit_at_cat_high upper (suc t) (2 ^ t - 1) i small (omega (arith, high))
      ∙ (sym (bit_at_cat_high upper (suc t) (2 ^ t) i fit (omega (arith, high))) ∙ ap (λ n. bit_at n i) whole))

  bit_here : bit_at (mask - 1) t ≡ 0
  bit_here = ap (λ n. bit_at n t) one_less ∙ (bit_at_cat_low upper (suc t) (2 ^ t - 1) t (omega arith) ∙ bit_at_ones_above t t (omega arith))

  pub cleared : (i : ℕ) → i ≤ t → bit_at (bit_and mask (mask - 1)) i ≡ 0
  cleared i low =
      elim (cases_Bool (i == t)) [
        | inl at ↦
            let same : i ≡ t = eqb-true i t at in
            rw same (bit_at_and mask (mask - 1) t ∙ rw bit_here (omega arith))
        | inr off ↦
            let apart : i ≢ t = grind (arith, nat_tests, off) in
            let none : bit_at mask i ≡ 0 = (bit_at-trailing_zeros w128 mask some fits).2 i (omega (arith, low, apart)) in
            bit_at_and mask (mask - 1) i ∙ rw none (omega arith)
      ]

  pub kept : (i : ℕ) → t < i → bit_at (bit_and mask (mask - 1)) i ≡ bit_at mask i
  kept i high = bit_at_and mask (mask - 1) i ∙ rw (bit_above i high) (omega arith)

  has_first : has_number mask t ≡ true
  has_first = let one = (bit_at-trailing_zeros w128 mask some fits).1 in rw one refl

  has_none : (i : ℕ) → i < t → has_number mask i ≡ false
  has_none i low = let none = (bit_at-trailing_zeros w128 mask some fits).2 i low in rw none refl

  loses : (i : ℕ) → i ≤ t → has_number (bit_and mask (mask - 1)) i ≡ false
  loses i low = rw (cleared i low) refl

  keeps : (i : ℕ) → t < i → has_number mask i ≡ has_number (bit_and mask (mask - 1)) i
  keeps i high = rw (kept i high) refl

  pub lowest_first : numbers_in mask ≡ t ∷ numbers_in (bit_and mask (mask - 1))
  unfolding numbers_in
  lowest_first =
      first_within (has_number mask) (has_number (bit_and mask (mask - 1))) t 0 mask_room (omega arith) (omega (arith, (bit_at-trailing_zeros w128 mask some fits).0))
      has_none has_first loses keeps

pub none_in : numbers_in 0 ≡ []
unfolding numbers_in
none_in = none_within (has_number 0) 0 mask_room (λ i low high. rw (bit_at-zero i) refl)

-- a mask of which numbers are left to take
pub some_left : (all : List ℕ) (mask taken : ℕ) → numbers_in mask ≡ drop taken all → taken < length all → 0 < mask
some_left all zero taken is less =
    let none : length (drop taken all) ≡ 0 = ap length (sym is ∙ none_in) in
    absurd (omega (arith, less, none, length-drop taken all))
some_left all (suc mask) taken is less = omega arith

-- ---- the numbers below n that pass a test

has_below : (n : ℕ) (test : ℕ → Bool) (i : ℕ) → has_number (mask_below n test) i ≡ (nat_lt i n && test i)
has_below n test i =
    let long : length (map test (range_with_len 0 n)) ≡ n = length-map-range_with_len test 0 n in
    elim (cases_Bool (nat_lt i n)) [
      | inl under ↦
          let low : i < n = grind (arith, nat_tests, under) in
          let bit : bit_at (mask_below n test) i ≡ cond (test i) 1 0 = bit_mask_l (map test (range_with_len 0 n)) i ∙ ap (λ b. cond b 1 0) (get_or-map-range_with_len test 0 n i i false low (omega arith)) in
          rw (bit, under) (as_test (test i))
      | inr over ↦
          let high : n ≤ i = grind (arith, nat_tests, over) in
          let fits : mask_below n test < 2 ^ n = rw long at (mask_l-lt (map test (range_with_len 0 n))) in
          rw (bit_at_above (mask_below n test) n i fits high, over) refl
    ]
  where
    as_test : (b : Bool) → (cond b 1 0 == 1) ≡ b
    as_test true = refl
    as_test false = refl

pub numbers_below : (mask n : ℕ) (test : ℕ → Bool) → mask < 2 ^ mask_room → mask ≡ mask_below n test → numbers_in mask ≡ filter test (range_with_len 0 n)
unfolding numbers_in
numbers_below mask n test fits is =
    below (has_number mask) test n 0 n mask_room (omega arith) (λ i. ap (λ m. has_number m i) is ∙ has_below n test i)
    (λ i high. rw (bit_at_above mask mask_room i fits (omega (arith, high))) refl)

-- a mask of w bits has at most w numbers
pub few_below : (w mask : ℕ) → mask < 2 ^ w → mask < 2 ^ mask_room → length (numbers_in mask) ≤ w
few_below w mask narrow fits =
    let numbers = numbers_below mask w (has_number mask) fits (told w mask narrow) in
    let fewer = filtered_fewer (has_number mask) 0 w in
    omega (arith, ap length numbers, fewer)
