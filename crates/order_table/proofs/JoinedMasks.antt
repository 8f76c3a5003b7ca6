-- Masks joined, and the first place of what they join to.
use Rattle.std.proofs.Common.{◌≡◌, ℕ, zero, suc, ◌<◌, ◌≤◌, Bool, true, false, ltb, Option, Some, None, List, [], ◌∷◌, length, take, map, refl, sym, ◌∙◌, ap, arith, inl, inr}
use Rattle.std.specs.Prelude.{◌||◌, ◌&&◌, bit_or, bit_and, position, slice_index, min}
use Rattle.std.specs.List.{position_or_len}
use Rattle.std.specs.Simd.Lanes.{mask_l}
use Rattle.std.specs.Int.Count.{count_trailing_zeros, trailing_of_zero}
use Rattle.std.proofs.lemmas.Bool.{cases_Bool}
use Rattle.std.proofs.lemmas.Bool.Decides.{nat_tests}
use Rattle.std.proofs.lemmas.List.{length-take-le}
use Rattle.std.proofs.lemmas.Simd.{trailing_mask_l, leading_from_mask_l}
use Rattle.order_table.specs.declared.Kind.TheVariants.{Read, Write, Rmw, Mfence, Sfence, FlushOpt, Flush}
use Rattle.order_table.specs.Operations.{Operation, is_one_line, is_kept_after, holder_of}
use Rattle.order_table.specs.Places.{is_of, places_of, operations_in, AreOfKinds, AreOfLines}
use Rattle.order_table.proofs.DecodedOperations.{counted}
use Rattle.order_table.proofs.MasksOverLists.{mask-or, mask-and, mask_same}

-- ---- the first place

module _ {X : Type 0} (test : X → Bool) where
  first_taken : (xs : List X) (n : ℕ) → n ≤ length xs → position_or_len test (take n xs) ≡ min n (position_or_len test xs)
  first_taken xs zero h = omega arith
  first_taken [] (suc n) h = absurd (omega arith)
  first_taken (x ∷ xs) (suc n) h =
      elim (cases_Bool (test x)) [
        | inl passes ↦ rw passes (omega arith)
        | inr fails ↦ let rest = first_taken xs n (omega arith) in rw fails (omega (arith, rest))
      ]

  abbrev mask : List X → ℕ
  mask xs = mask_l (map test xs)

  -- the lowest bit tells as much of the places before n as the list does
  lowest : (w : ℕ) (xs : List X) (n : ℕ) → length xs ≤ w → n ≤ length xs → min n (count_trailing_zeros w (mask xs)) ≡ min n (position_or_len test xs)
  lowest w xs n room h =
      elim (cases_Bool (ltb 0 (mask xs))) [
        | inl some ↦
            let positive : 0 < mask xs = grind (arith, nat_tests, some) in
            ap (λ (m : ℕ). min n m) (trailing_mask_l test w xs room positive)
        | inr empty ↦
            let none : mask xs ≡ 0 = grind (arith, nat_tests, empty) in
            let past : position_or_len test xs ≡ length xs = leading_from_mask_l test xs none in
            let all : count_trailing_zeros w (mask xs) ≡ w = ap (count_trailing_zeros w) none ∙ trailing_of_zero w in
            omega (arith, past, all)
      ]

  first_before : (w : ℕ) (xs : List X) (n : ℕ) → length xs ≤ w → n ≤ length xs → position_or_len test (take n xs) ≡ min n (count_trailing_zeros w (mask xs))
  first_before w xs n room h = first_taken xs n h ∙ sym (lowest w xs n room h)

  pub first_is : (w : ℕ) (xs : List X) (n : ℕ) → length xs ≤ w → n ≤ length xs → count_trailing_zeros w (mask xs) < n
      → Some (count_trailing_zeros w (mask xs)) ≡ position test (take n xs)
  first_is w xs n room h before =
      let found : position_or_len test (take n xs) ≡ count_trailing_zeros w (mask xs) = omega (arith, first_before w xs n room h) in
      let within : ltb (count_trailing_zeros w (mask xs)) n ≡ true = grind (arith, nat_tests, before) in
      rw (found, length-take-le n xs h, within) refl

  pub none_is : (w : ℕ) (xs : List X) (n : ℕ) → length xs ≤ w → n ≤ length xs → n ≤ count_trailing_zeros w (mask xs)
      → None ≡ position test (take n xs)
  none_is w xs n room h past =
      let found : position_or_len test (take n xs) ≡ n = omega (arith, first_before w xs n room h) in
      let outside : ltb n n ≡ false = grind (arith, nat_tests) in
      rw (found, length-take-le n xs h, outside) refl

-- ---- the masks of the kinds after which one must wait

module _ (operations : List Operation) where
  joined : {m n : ℕ} (p q : Operation → Bool) → m ≡ places_of p operations → n ≡ places_of q operations → bit_or m n ≡ places_of (λ o. p o || q o) operations
  joined p q e f = rw (e, f) (mask-or p q operations)

  met : {m n : ℕ} (p q : Operation → Bool) → m ≡ places_of p operations → n ≡ places_of q operations → bit_and m n ≡ places_of (λ o. p o && q o) operations
  met p q e f = rw (e, f) (mask-and p q operations)

abbrev unconditional : Operation → Bool
unconditional o = (is_of Read o || is_of Rmw o) || is_of Mfence o

abbrev with_stores : Operation → Bool
with_stores o = ((unconditional o || is_of Sfence o) || is_of Write o) || is_of Flush o

abbrev all_kinds : Operation → Bool
all_kinds o = with_stores o || is_of FlushOpt o

abbrev stores_on : Option ℕ → Operation → Bool
stores_on line o = (unconditional o || is_of Sfence o) || ((is_of Write o || is_of Flush o) && is_one_line o.1 line)

abbrev flushes_on : Option ℕ → Operation → Bool
flushes_on line o = with_stores o || (is_of FlushOpt o && is_one_line o.1 line)

read_waits : (line : Option ℕ) (o : Operation) → unconditional o ≡ is_kept_after (Read, line) o
read_waits line (Read, l) = refl
read_waits line (Write, l) = refl
read_waits line (Rmw, l) = refl
read_waits line (Mfence, l) = refl
read_waits line (Sfence, l) = refl
read_waits line (FlushOpt, l) = refl
read_waits line (Flush, l) = refl

write_waits : (line : Option ℕ) (o : Operation) → with_stores o ≡ is_kept_after (Write, line) o
write_waits line (Read, l) = refl
write_waits line (Write, l) = refl
write_waits line (Rmw, l) = refl
write_waits line (Mfence, l) = refl
write_waits line (Sfence, l) = refl
write_waits line (FlushOpt, l) = refl
write_waits line (Flush, l) = refl

rmw_waits : (line : Option ℕ) (o : Operation) → all_kinds o ≡ is_kept_after (Rmw, line) o
rmw_waits line (Read, l) = refl
rmw_waits line (Write, l) = refl
rmw_waits line (Rmw, l) = refl
rmw_waits line (Mfence, l) = refl
rmw_waits line (Sfence, l) = refl
rmw_waits line (FlushOpt, l) = refl
rmw_waits line (Flush, l) = refl

mfence_waits : (line : Option ℕ) (o : Operation) → all_kinds o ≡ is_kept_after (Mfence, line) o
mfence_waits line (Read, l) = refl
mfence_waits line (Write, l) = refl
mfence_waits line (Rmw, l) = refl
mfence_waits line (Mfence, l) = refl
mfence_waits line (Sfence, l) = refl
mfence_waits line (FlushOpt, l) = refl
mfence_waits line (Flush, l) = refl

sfence_waits : (line : Option ℕ) (o : Operation) → all_kinds o ≡ is_kept_after (Sfence, line) o
sfence_waits line (Read, l) = refl
sfence_waits line (Write, l) = refl
sfence_waits line (Rmw, l) = refl
sfence_waits line (Mfence, l) = refl
sfence_waits line (Sfence, l) = refl
sfence_waits line (FlushOpt, l) = refl
sfence_waits line (Flush, l) = refl

flush_opt_waits : (line : Option ℕ) (o : Operation) → stores_on line o ≡ is_kept_after (FlushOpt, line) o
flush_opt_waits line (Read, l) = refl
flush_opt_waits line (Write, l) = refl
flush_opt_waits line (Rmw, l) = refl
flush_opt_waits line (Mfence, l) = refl
flush_opt_waits line (Sfence, l) = refl
flush_opt_waits line (FlushOpt, l) = refl
flush_opt_waits line (Flush, l) = refl

flush_waits : (line : Option ℕ) (o : Operation) → flushes_on line o ≡ is_kept_after (Flush, line) o
flush_waits line (Read, l) = refl
flush_waits line (Write, l) = refl
flush_waits line (Rmw, l) = refl
flush_waits line (Mfence, l) = refl
flush_waits line (Sfence, l) = refl
flush_waits line (FlushOpt, l) = refl
flush_waits line (Flush, l) = refl

module _ (kinds : List ℕ) (on_line : ℕ) (operations : List Operation) (line : Option ℕ)
    (of_kinds : AreOfKinds operations kinds)
    (of_line : on_line ≡ places_of (λ earlier. is_one_line earlier.1 line) operations) where
  abbrev unconditional_mask : ℕ
  unconditional_mask = bit_or (bit_or (slice_index kinds 0) (slice_index kinds 2)) (slice_index kinds 3)

  abbrev stores_mask : ℕ
  stores_mask = bit_or (bit_or (bit_or unconditional_mask (slice_index kinds 4)) (slice_index kinds 1)) (slice_index kinds 6)

  unconditional_is : unconditional_mask ≡ places_of unconditional operations
  unconditional_is = joined operations (λ o. is_of Read o || is_of Rmw o) (is_of Mfence) (joined operations (is_of Read) (is_of Rmw) (of_kinds Read) (of_kinds Rmw)) (of_kinds Mfence)

  with_sfences_is : bit_or unconditional_mask (slice_index kinds 4) ≡ places_of (λ o. unconditional o || is_of Sfence o) operations
  with_sfences_is = joined operations unconditional (is_of Sfence) unconditional_is (of_kinds Sfence)

  stores_is : stores_mask ≡ places_of with_stores operations
  stores_is =
      joined operations (λ o. (unconditional o || is_of Sfence o) || is_of Write o) (is_of Flush)
      (joined operations (λ o. unconditional o || is_of Sfence o) (is_of Write) with_sfences_is (of_kinds Write))
      (of_kinds Flush)

  all_is : bit_or stores_mask (slice_index kinds 5) ≡ places_of all_kinds operations
  all_is = joined operations with_stores (is_of FlushOpt) stores_is (of_kinds FlushOpt)

  pub before_read : unconditional_mask ≡ places_of (is_kept_after (Read, line)) operations
  before_read = unconditional_is ∙ mask_same unconditional (is_kept_after (Read, line)) operations (read_waits line)

  pub before_write : stores_mask ≡ places_of (is_kept_after (Write, line)) operations
  before_write = stores_is ∙ mask_same with_stores (is_kept_after (Write, line)) operations (write_waits line)

  pub before_rmw : bit_or stores_mask (slice_index kinds 5) ≡ places_of (is_kept_after (Rmw, line)) operations
  before_rmw = all_is ∙ mask_same all_kinds (is_kept_after (Rmw, line)) operations (rmw_waits line)

  pub before_mfence : bit_or stores_mask (slice_index kinds 5) ≡ places_of (is_kept_after (Mfence, line)) operations
  before_mfence = all_is ∙ mask_same all_kinds (is_kept_after (Mfence, line)) operations (mfence_waits line)

  pub before_sfence : bit_or stores_mask (slice_index kinds 5) ≡ places_of (is_kept_after (Sfence, line)) operations
  before_sfence = all_is ∙ mask_same all_kinds (is_kept_after (Sfence, line)) operations (sfence_waits line)

  pub before_flush_opt : bit_or (bit_or unconditional_mask (slice_index kinds 4)) (bit_and (bit_or (slice_index kinds 1) (slice_index kinds 6)) on_line)
      ≡ places_of (is_kept_after (FlushOpt, line)) operations
  before_flush_opt =
      joined operations (λ o. unconditional o || is_of Sfence o) (λ o. (is_of Write o || is_of Flush o) && is_one_line o.1 line) with_sfences_is
      (met operations (λ o. is_of Write o || is_of Flush o) (λ o. is_one_line o.1 line)
      (joined operations (is_of Write) (is_of Flush) (of_kinds Write) (of_kinds Flush)) of_line)
      ∙ mask_same (stores_on line) (is_kept_after (FlushOpt, line)) operations (flush_opt_waits line)

  pub before_flush : bit_or stores_mask (bit_and (slice_index kinds 5) on_line) ≡ places_of (is_kept_after (Flush, line)) operations
  before_flush =
      joined operations with_stores (λ o. is_of FlushOpt o && is_one_line o.1 line) stores_is
      (met operations (is_of FlushOpt) (λ o. is_one_line o.1 line) (of_kinds FlushOpt) of_line)
      ∙ mask_same (flushes_on line) (is_kept_after (Flush, line)) operations (flush_waits line)

-- ---- the places on a line

never_one : (named : Option ℕ) → is_one_line named None ≡ false
never_one None = refl
never_one (Some a) = refl

none_on : (operations : List Operation) → places_of (λ o. is_one_line o.1 None) operations ≡ 0
none_on [] = refl
none_on (o ∷ rest) = rw (never_one o.1, none_on rest) refl

pub no_line : (lines : List ℕ) (operations : List Operation) → AreOfLines operations lines → 0 ≡ places_of (λ o. is_one_line o.1 None) operations
no_line lines operations are = sym (none_on operations)

-- ---- the holder, as the code finds it

module _ (w mask : ℕ) (kinds lines : List ℕ) (len : ℕ) (now : List Operation) (place : ℕ) (later : Operation)
    (view : operations_in kinds lines len ≡ now) (kept : mask ≡ places_of (is_kept_after later) (operations_in kinds lines len)) (room : len ≤ w) (within : place ≤ length now) where
  mask_now : mask ≡ places_of (is_kept_after later) now
  mask_now = kept ∙ ap (places_of (is_kept_after later)) view

  room_now : length now ≤ w
  room_now = let count = counted kinds lines len now view in omega (arith, count)

  pub held : count_trailing_zeros w mask < place → Some (count_trailing_zeros w mask) ≡ holder_of now place later
  held before = rw mask_now (first_is (is_kept_after later) w now place room_now within (rw mask_now at before))

  pub unheld : place ≤ count_trailing_zeros w mask → None ≡ holder_of now place later
  unheld past = none_is (is_kept_after later) w now place room_now within (rw mask_now at past)
