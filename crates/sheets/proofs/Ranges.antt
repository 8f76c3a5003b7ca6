-- Ranges of numbers, from their fronts.
use Rattle.std.proofs.Common.{◌≡◌, ℕ, suc, ◌+◌, ◌-◌, ◌<◌, ◌≤◌, [], ◌∷◌, refl, arith}
use Rattle.std.specs.List.{range_with_len}

pub next_number : (a n : ℕ) → a < n → range_with_len a (n - a) ≡ a ∷ range_with_len (a + 1) (n - (a + 1))
next_number a n below = let more : n - a ≡ suc (n - (a + 1)) = omega arith in rw more refl

pub no_number : (a n : ℕ) → n ≤ a → range_with_len a (n - a) ≡ []
no_number a n past = let none : n - a ≡ 0 = omega arith in rw none refl

pub ruleset range_steps = (next_number, no_number)
