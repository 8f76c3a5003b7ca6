-- What a line `values` asks.
use Rattle.std.specs.Prelude.{ℕ, List}

-- the values of a word in the images in which other words have these
pub record Asked : Type 0 where
  pub word : ℕ
  pub given : List (ℕ × ℕ)

abbrev pub asked : ℕ → List (ℕ × ℕ) → Asked
asked word given = record { word = word; given = given }
