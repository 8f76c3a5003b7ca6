-- A mask of numbers, with one number more.
use Rattle.std.proofs.Common.{◌≡◌, ℕ, ◌+◌, ◌*◌, ◌%◌, ◌^◌, ◌<◌, Bool, true, false, List, ◌∷◌, [], ◌++◌, length, map, arith}
use Rattle.std.specs.Prelude.{bit_or}
use Rattle.std.specs.List.{range_with_len}
use Rattle.std.specs.Simd.Lanes.{mask_l}
use Rattle.std.proofs.lemmas.List.FromFn.{length-map-range_with_len, map-range_with_len_more}
use Rattle.std.proofs.lemmas.Nat.{one_shl}
use Rattle.order_table.proofs.MasksOverLists.{one_more_bit, no_more_bit}
use Rattle.machine.specs.Accepted.{mask_below}

module _ (test : ℕ → Bool) (number w mask : ℕ) (before : mask ≡ mask_below number test) where
  abbrev tests : ℕ → List Bool
  tests n = map test (range_with_len 0 n)

  more : tests (number + 1) ≡ tests number ++ test number ∷ []
  more = map-range_with_len_more test 0 number number (omega arith)

  pub number_added : number < w → test number ≡ true → bit_or mask (1 * 2 ^ number % 2 ^ w) ≡ mask_below (number + 1) test
  number_added room is =
      let long : length (tests number) ≡ number = length-map-range_with_len test 0 number in
      let bit : bit_or (mask_l (tests number)) (2 ^ number) ≡ mask_l (tests number ++ true ∷ []) = rw long at (one_more_bit (tests number)) in
      rw (one_shl number w room, before, more, is) bit

  pub number_passed_over : test number ≡ false → mask ≡ mask_below (number + 1) test
  number_passed_over is = rw (before, more, is) (no_more_bit (tests number))
