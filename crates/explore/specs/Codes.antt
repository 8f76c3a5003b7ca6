-- Numbers as bytes: a small number is one byte. No rule, and in no public clause.
use Rattle.std.specs.Prelude.{ℕ, zero, suc, ◌/◌, ◌%◌, List, [], ◌∷◌, ◌++◌, nat_lt, if◌then◌else◌}

-- so many low bytes of a number, the lowest first, and then all that is above them
abbrev pub low_bytes : ℕ → ℕ → List ℕ
low_bytes zero n = n ∷ []
low_bytes (suc k) n = n % 256 ∷ low_bytes k (n / 256)

-- A number below 254 is its own code. 254 is before two parts of a number, 255 before eight.
-- Of a number of 64 bits each part is a byte.
unfoldable pub code_of : ℕ → List ℕ
code_of n = if nat_lt n 254 then n ∷ [] else (if nat_lt n 65536 then 254 ∷ low_bytes 1 n else 255 ∷ low_bytes 7 n)

-- the codes of numbers, one after another
abbrev pub coded : List ℕ → List ℕ
coded [] = []
coded (n ∷ numbers) = code_of n ++ coded numbers
