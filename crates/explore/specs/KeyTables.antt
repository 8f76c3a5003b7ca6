-- How keys are kept: their bytes one after another, and chains by which a key is found. No rule, and in no public clause.
use Rattle.std.specs.Prelude.{◌≡◌, ◌⊎◌, ℕ, zero, suc, ◌+◌, ◌-◌, ◌*◌, ◌/◌, ◌%◌, ◌<◌, ◌≤◌, Some, List, [], ◌∷◌, drop, length, slice_get, slice_index, take}

-- Places ascend, from one to another.
abbrev pub AreEnds : ℕ → List ℕ → ℕ → Type 0
AreEnds start [] last = start ≡ last
AreEnds start (end ∷ ends) last = (start ≤ end) × AreEnds end ends last

-- the parts of a list that end at these places, of which the first begins at another
abbrev pub parts : {A : Type 0} → ℕ → List ℕ → List A → List (List A)
parts start [] items = []
parts start (end ∷ ends) items = take (end - start) (drop start items) ∷ parts end ends items

-- where part i begins
abbrev pub start_of : ℕ → List ℕ → ℕ → ℕ
start_of start ends zero = start
start_of start ends (suc i) = slice_index ends i

-- a number with one more byte in it
unfoldable pub mixed : ℕ → ℕ → ℕ
mixed hash byte = ((hash + byte) % 18446744073709551616) * 11400714819323198485 % 18446744073709551616

-- a number of bytes
abbrev pub hash_from : ℕ → List ℕ → ℕ
hash_from hash [] = hash
hash_from hash (byte ∷ bytes) = hash_from (mixed hash byte) bytes

-- the chain, of so many, on which a key is
abbrev pub chain_of : ℕ → List ℕ → ℕ
chain_of count key = (hash_from 0 key / 4294967296) % count

-- A chain has key i, where it goes on from one: a key's place on it is told as its number and one, and 0 is the end.
abbrev pub GoesOver : ℕ → List ℕ → ℕ → ℕ → Type 0
GoesOver zero before i at = ⊥
GoesOver (suc most) before i at = (at ≡ suc i) ⊎ ((j : ℕ) × (at ≡ suc j) × GoesOver most before i (slice_index before j))

abbrev pub IsOn : List ℕ → ℕ → ℕ → Type 0
IsOn before i at = (most : ℕ) × GoesOver most before i at

-- Of so many first keys each is on its chain.
pub record AreLinked (count : ℕ) (keys : List (List ℕ)) (last before : List ℕ) : Type 0 where
  pub each : length before ≡ count
  pub lasts : (b : ℕ) → slice_index last b ≤ count
  pub olds : (i : ℕ) → slice_index before i ≤ i
  pub found : (i : ℕ) (key : List ℕ) → i < count → slice_get keys i ≡ Some key → IsOn before i (slice_index last (chain_of (length last) key))

-- Keys and their chains.
pub record IsTable (bytes ends last before : List ℕ) : Type 0 where
  pub ascend : AreEnds 0 ends (length bytes)
  pub room : length ends ≤ length last
  pub linked : AreLinked (length ends) (parts 0 ends bytes) last before
