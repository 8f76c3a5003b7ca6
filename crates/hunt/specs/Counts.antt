-- How often a number is in a list.
use Rattle.std.specs.Prelude.{ℕ, ◌+◌, ◌<◌, ◌==◌, nat_lt, List, [], ◌∷◌, if◌then◌else◌}

-- 1 where the numbers are the same, otherwise 0
abbrev pub one : ℕ → ℕ → ℕ
one x y = (if x == y then 1 else 0)

-- how often x is in the list
abbrev pub times : ℕ → List ℕ → ℕ
times x [] = 0
times x (y ∷ ys) = one x y + times x ys

-- x is in the list
abbrev pub Has : List ℕ → ℕ → Type 0
Has xs x = 0 < times x xs

-- how many of the list are not below n
abbrev pub beyond : ℕ → List ℕ → ℕ
beyond n [] = 0
beyond n (y ∷ ys) = (if nat_lt y n then 0 else 1) + beyond n ys

-- each number is greater than those before it
abbrev pub IsRising : List ℕ → Type 0
IsRising [] = Unit {0}
IsRising (y ∷ ys) = ((x : ℕ) → Has ys x → y < x) × IsRising ys
