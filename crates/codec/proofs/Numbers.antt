-- Bytes, and the numbers that four or eight of them spell.
use Rattle.std.proofs.Common.{◌≡◌, ℕ, zero, suc, ◌+◌, ◌^◌, ◌<◌, Bool, true, false, cond, ltb, List, [], ◌∷◌, ◌++◌, length, take, drop, refl, arith, inl, inr}
use Rattle.std.specs.Prelude.{replicate}
use Rattle.std.specs.Int.{Width, w32, w64, byte_len, from_le_bytes, to_le_bytes}
pub use Rattle.codec.specs.Bytes.{IsBytes}
use Rattle.std.proofs.lemmas.Bool.{cases_lt, ltb-true}
use Rattle.std.proofs.lemmas.List.{length-take, get_or-drop, get_or-take, get_or_past}
use Rattle.std.proofs.lemmas.Nat.{le_bytes_4, le_bytes_8, from_le_bytes-to_le_bytes_4, from_le_bytes-to_le_bytes_8}

pub IsBytes-drop : (n : ℕ) (bytes : List ℕ) → IsBytes bytes → IsBytes (drop n bytes)
IsBytes-drop n bytes h i = rw get_or-drop (h (n + i))

pub IsBytes-take : (n : ℕ) (bytes : List ℕ) → IsBytes bytes → IsBytes (take n bytes)
IsBytes-take n bytes h i =
    elim (cases_lt i n) [
      | inl lt ↦ rw (get_or-take n bytes i 0 lt) (h i)
      | inr le ↦ rw (get_or_past (take n bytes) i 0 (omega (arith, length-take n bytes))) (omega arith)
    ]

pub IsBytes-rest : (b : ℕ) (bytes : List ℕ) → IsBytes (b ∷ bytes) → IsBytes bytes
IsBytes-rest b bytes h i = h (suc i)

all_bytes_cond : (q r : Bool) → cond q r false ≡ true → (q ≡ true) × (r ≡ true)
all_bytes_cond true r e = (refl, e)
all_bytes_cond false r e = absurd cc

-- the same as a test, which computes
abbrev pub all_bytes : List ℕ → Bool
all_bytes [] = true
all_bytes (b ∷ bytes) = cond (ltb b 256) (all_bytes bytes) false

pub IsBytes-cons : (b : ℕ) (bytes : List ℕ) → b < 256 → IsBytes bytes → IsBytes (b ∷ bytes)
IsBytes-cons b bytes lt h zero = lt
IsBytes-cons b bytes lt h (suc i) = h i

pub IsBytes-none : IsBytes []
IsBytes-none i = omega arith

pub IsBytes-all : (bytes : List ℕ) → all_bytes bytes ≡ true → IsBytes bytes
IsBytes-all [] e = IsBytes-none
IsBytes-all (b ∷ bytes) e =
    let both = all_bytes_cond (ltb b 256) (all_bytes bytes) e in
    IsBytes-cons b bytes (ltb-true b 256 both.0) (IsBytes-all bytes both.1)

pub IsBytes-append : (a b : List ℕ) → IsBytes a → IsBytes b → IsBytes (a ++ b)
IsBytes-append [] b h k = k
IsBytes-append (x ∷ a) b h k = IsBytes-cons x (a ++ b) (h 0) (IsBytes-append a b (IsBytes-rest x a h) k)

pub IsBytes-replicate : (n : ℕ) → IsBytes (replicate n 0)
IsBytes-replicate zero = IsBytes-none
IsBytes-replicate (suc n) = IsBytes-cons 0 (replicate n 0) (omega arith) (IsBytes-replicate n)

pub IsBytes-end : (a b : List ℕ) → IsBytes (a ++ b) → IsBytes b
IsBytes-end [] b h = h
IsBytes-end (x ∷ a) b h = IsBytes-end a b (IsBytes-rest x (a ++ b) h)

-- what is known of numbers of a width
pub record IsWide (w : Width) (limit : ℕ) : Type 0 where
  pub len : (n : ℕ) → length (to_le_bytes w n) ≡ byte_len w
  pub back : (bytes : List ℕ) → length bytes ≡ byte_len w → IsBytes bytes → to_le_bytes w (from_le_bytes w bytes) ≡ bytes
  pub again : (n : ℕ) → n < limit → from_le_bytes w (to_le_bytes w n) ≡ n
  pub below : (bytes : List ℕ) → IsBytes bytes → from_le_bytes w bytes < limit

pub wide32 : IsWide w32 (2 ^ 32)
wide32 = record {
  len = λ n. refl;
  back = λ bytes len fits. le_bytes_4 bytes _ len fits refl;
  again = λ n lt. from_le_bytes-to_le_bytes_4 n lt;
  below = λ bytes fits. omega (arith, fits 0, fits 1, fits 2, fits 3);
}

pub wide64 : IsWide w64 (2 ^ 64)
wide64 = record {
  len = λ n. refl;
  back = λ bytes len fits. le_bytes_8 bytes _ len fits refl;
  again = λ n lt. from_le_bytes-to_le_bytes_8 n lt;
  below = λ bytes fits. omega (arith, fits 0, fits 1, fits 2, fits 3, fits 4, fits 5, fits 6, fits 7);
}
