-- A number of an option has no plus before it.
use Rattle.std.proofs.Common.{◌≡◌, ℕ, true, false, List, [], ◌∷◌, refl, arith, codes}
use Rattle.std.specs.Prelude.{nat_eq}
use Rattle.std.specs.List.{starts_with}
use Rattle.std.specs.Str.Parse.{IsNumeral, without_leading_plus}

-- what begins with a plus is not digits alone
pub no_number : (text : List ℕ) → starts_with nat_eq text (codes "+") ≡ true → IsNumeral 10 text → ⊥
no_number [] begins is = absurd cc
no_number (b ∷ text) begins is = search arith

-- without a plus, nothing is left out before the digits
pub no_plus : (text : List ℕ) → starts_with nat_eq text (codes "+") ≡ false → without_leading_plus text ≡ text
no_plus [] other = refl
no_plus (b ∷ text) other = search arith
