-- What may be asked of all runs.
use Rattle.std.proofs.Common.{◌≡◌, refl, Bool, true, false}
use Rattle.std.specs.Prelude.{◌&&◌, not}

-- the first of two that are so is so
pub first_so : (a b : Bool) → true ≡ (a && not b) → a ≡ true
first_so true b both = refl
first_so false b both = absurd cc

-- the second is not
pub second_not : (a b : Bool) → true ≡ (a && not b) → b ≡ false
second_not true true both = absurd cc
second_not true false both = refl
second_not false b both = absurd cc
