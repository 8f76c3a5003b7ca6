-- Masks of numbers: bit n of a mask stands for number n.
use Rattle.std.specs.Prelude.{ℕ, suc, zero, Bool, Result, Ok, Err, List, [], ◌∷◌, ◌==◌}
use Rattle.std.specs.Int.{bit_at}
use Rattle.std.specs.List.{filter, range_with_len}
use Rattle.store_buffer.specs.Buffers.{buffer_room}

-- how many numbers a mask can have: one for each place of a store buffer, and those of all processors and lines are fewer
abbrev pub mask_room : ℕ
mask_room = buffer_room

-- whether a mask has a number
abbrev pub has_number : ℕ → ℕ → Bool
has_number mask n = bit_at mask n == 1

-- the numbers that a mask has, lowest first
unfoldable pub numbers_in : ℕ → List ℕ
numbers_in mask = filter (has_number mask) (range_with_len 0 mask_room)

-- element n of a list, from 0, or by how much n passes the list
abbrev pub nth_or_rest : {A : Type 0} → List A → ℕ → Result A ℕ
nth_or_rest [] n = Err n
nth_or_rest (x ∷ xs) zero = Ok x
nth_or_rest (x ∷ xs) (suc n) = nth_or_rest xs n
