-- What is at the front of bytes. Who reads says which fault it is where they end too soon.
use Rattle.std.specs.Prelude.{◌≡◌, ◌<◌, ℕ, List, [], ◌∷◌, ◌++◌, length, take, drop, slice_index, Result, Ok, Err, OnOk, nat_lt}
use Rattle.std.specs.Global.{Vec}
use Rattle.std.specs.Int.{Width, byte_len, from_le_bytes}
use Rattle.outcomes.specs.Outcomes.{◌>>=◌, refuse}

-- What a function returned, seen by view, is what reading gives.
abbrev pub Gives : {X Y E : Type 0} → (X → Y) → Result X E → Result Y E → Type 0
Gives view (Ok x) told = told ≡ Ok (view x)
Gives view (Err e) told = told ≡ Err e

-- each is below 256
abbrev pub IsBytes : List ℕ → Type 0
IsBytes bytes = (i : ℕ) → slice_index bytes i < 256

-- A call puts these bytes behind those of a list, unless memory ran out.
abbrev pub PutsBytes : {E : Type 0} → List ℕ → Vec ℕ → Result (Unit {0}) E → Vec ℕ → Type 0
PutsBytes bytes old result new = OnOk result (new.items ≡ old.items ++ bytes)

-- a byte, and what follows it
abbrev pub byte_at : {E : Type 0} → E → List ℕ → Result (ℕ × List ℕ) E
byte_at short [] = Err short
byte_at short (b ∷ bytes) = Ok (b, bytes)

-- so many bytes, and what follows them
abbrev pub front_at : {E : Type 0} → E → ℕ → List ℕ → Result (List ℕ × List ℕ) E
front_at short n bytes = do
  there ← refuse short (nat_lt (length bytes) n)
  Ok (take n bytes, drop n bytes)

-- a number of so many bits, its lowest byte first
abbrev pub number_at : {E : Type 0} → E → Width → List ℕ → Result (ℕ × List ℕ) E
number_at short w bytes = do
  front ← front_at short (byte_len w) bytes
  Ok (from_le_bytes w front.0, front.1)
