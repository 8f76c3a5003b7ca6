-- The instructions that runs execute.
use Rattle.std.specs.Prelude.{◌≡◌, ℕ, Bool, true, false, Some, Ok, List, [], ◌∷◌, Contains, slice_get}
use Rattle.machine.specs.declared.step.Seen.{Seen}
use Rattle.machine.specs.declared.step.Step.TheVariants.{Exec}
use Rattle.machine.specs.State.{Processor, State}
use Rattle.machine.specs.Steps.{step_of}
use Rattle.explore.specs.Reachable.{IsReachable}

-- In this state processor p executes the instruction at a place of its recovery program, or of its main program.
pub record Executes (s : State) (p : ℕ) (recovery : Bool) (place : ℕ) : Type 0 where
  pub cpu : Processor
  pub there : slice_get s.processors p ≡ Some cpu
  pub program : cpu.recovering ≡ recovery
  pub at : cpu.place ≡ place
  pub seen : Seen
  pub end : State
  pub made : step_of s (Exec p) ≡ Ok (seen, end)

-- some run executes it
abbrev pub IsRan : Bool → State → ℕ → Bool → ℕ → Type 0
IsRan crashes start p recovery place = (t : State) × IsReachable crashes start t × Executes t p recovery place

-- 1 or 0
abbrev pub flag_number : Bool → ℕ
flag_number true = 1
flag_number false = 0

-- an instruction as numbers: its processor, whether it is of the recovery program, and its place there
abbrev pub site : ℕ → Bool → ℕ → List ℕ
site p recovery place = p ∷ flag_number recovery ∷ place ∷ []

-- one of the states executes it
abbrev pub IsRanAmong : List State → ℕ → Bool → ℕ → Type 0
IsRanAmong nodes p recovery place = (r : State) × Contains nodes r × Executes r p recovery place
