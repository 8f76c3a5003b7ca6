-- What a machine may come to, by any steps that it accepts, and whether a crash anywhere there leaves a memory that makes a condition true.
use Rattle.std.specs.Prelude.{◌≡◌, ℕ, Bool, true, false, None, List, not}
use Rattle.std.specs.List.{list_any}
use Rattle.machine.specs.declared.step.Step.{Step}
use Rattle.machine.specs.declared.step.Step.TheVariants.{Exec, Drain, Persist, Settle, Crash}
use Rattle.machine.specs.State.{State}
use Rattle.machine.specs.Steps.{run_of}
use Rattle.conditions.specs.Formulas.{Formula}
use Rattle.images.specs.Images.{IsImage}
use Rattle.images.specs.Truth.{holds_on}

-- whether a step is a crash
abbrev pub is_crash : Step → Bool
is_crash (Exec p) = false
is_crash (Drain p i) = false
is_crash (Persist line) = false
is_crash Settle = false
is_crash Crash = true

-- A run: a list of steps that are all accepted, from one state to another. It crashes any number of times; not at all where crashes are left out.
pub record IsRun (crashes : Bool) (steps : List Step) (s t : State) : Type 0 where
  pub accepted : (run_of steps s).refusal ≡ None
  pub leads : (run_of steps s).state ≡ t
  pub crashing : list_any is_crash steps ≡ true → crashes ≡ true

-- Some run leads from one state to another.
abbrev pub IsReachable : Bool → State → State → Type 0
IsReachable crashes s t = (steps : List Step) × IsRun crashes steps s t

-- whether an image of a state makes a condition false
abbrev pub breaks : Formula → State → List ℕ → Bool
breaks condition s = λ image. not (holds_on s condition image)

-- No crash in this state leaves a memory that makes the condition false.
abbrev pub IsKept : Formula → State → Type 0
IsKept condition s = (image : List ℕ) → IsImage s image → holds_on s condition image ≡ true

-- No crash in any state that a run reaches leaves a memory that makes the condition false.
abbrev pub IsAlwaysKept : Bool → Formula → State → Type 0
IsAlwaysKept crashes condition s = (t : State) → IsReachable crashes s t → IsKept condition t
