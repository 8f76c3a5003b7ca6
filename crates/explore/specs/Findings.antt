-- What an exploration finds.
use Rattle.std.specs.Prelude.{ℕ, Bool, List, Contains}
use Rattle.explore.specs.Ran.{site}

-- What is found where each condition holds.
pub record Findings : Type 0 where
  -- how many states were told apart
  pub states : ℕ
  -- the outcomes of the ends before a crash, and after one
  pub ends : List (List ℕ)
  pub recovered : List (List ℕ)
  -- the images of all states, where they are asked for
  pub images : List (List ℕ)
  -- the instructions that some run executes
  pub ran : List (List ℕ)

-- an instruction is one of them
abbrev pub HasRun : Findings → ℕ → Bool → ℕ → Type 0
HasRun found p recovery place = Contains found.ran (site p recovery place)
