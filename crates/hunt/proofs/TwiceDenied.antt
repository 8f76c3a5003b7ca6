-- What is denied twice.
use Rattle.std.proofs.Common.{◌≡◌, Bool, true, false, not, ◌&&◌, refl}

pub twice_not : (b : Bool) → b ≡ not (not b)
twice_not true = refl
twice_not false = refl

-- of what comes to an end
pub not_broken : (ended met : Bool) → ended ≡ true → met ≡ not (ended && not met)
not_broken true met e = twice_not met
not_broken false met e = absurd cc
