-- Steps and runs of a state, and those of a thinner one that stand for them.
use Rattle.std.specs.Prelude.{◌≡◌, ◌⊎◌, ℕ, Bool, true, false, Ok, List, [], ◌∷◌}
use Rattle.machine.specs.declared.step.Seen.{Seen}
use Rattle.machine.specs.declared.step.Seen.TheVariants.{Ran, Left, Persisted, Settled, Crashed}
use Rattle.machine.specs.declared.step.Step.{Step}
use Rattle.machine.specs.declared.step.Step.TheVariants.{Exec, Drain, Persist, Settle, Crash}
use Rattle.machine.specs.State.{State}
use Rattle.machine.specs.Steps.{run_of, step_of}
use Rattle.explore.specs.Reachable.{IsRun}
use Rattle.fewer_fences.specs.Thinner.{IsThinner, is_no_write}

-- ---- a step

-- the same step, but that an entry may leave its store buffer from another place
abbrev pub IsLike : Step → Step → Type 0
IsLike (Drain p i) made = (place : ℕ) × (made ≡ Drain p place)
IsLike step made = made ≡ step

-- whether a step may be left out: a drain, or a settle
abbrev pub may_be_left_out : Step → Bool
may_be_left_out (Exec p) = false
may_be_left_out (Drain p i) = true
may_be_left_out (Persist line) = false
may_be_left_out Settle = true
may_be_left_out Crash = false

-- whether a step shows that a flush or an sfence left its store buffer, or that a marker went
abbrev pub shows_no_write : Seen → Bool
shows_no_write (Ran p place act) = false
shows_no_write (Left p i entry) = is_no_write entry
shows_no_write (Persisted word value) = false
shows_no_write (Settled line) = true
shows_no_write (Crashed n) = false

-- The step that leads to a state is made in the thinner one too, and leads to what is thinner still.
pub record IsMadeToo (step : Step) (less after : State) : Type 0 where
  pub made : Step
  pub alike : IsLike step made
  pub seen : Seen
  pub end : State
  pub accepted : step_of less made ≡ Ok (seen, end)
  pub thinner : IsThinner after end

-- Or the thinner one lacks what leaves a store buffer or the pending list, and is what is thinner still.
pub record IsLeftOut (step : Step) (seen : Seen) (less after : State) : Type 0 where
  pub left_out : may_be_left_out step ≡ true
  pub shown : shows_no_write seen ≡ true
  pub thinner : IsThinner after less

-- A step that shows this and leads to a state is followed from another one: by one step, or by none.
abbrev pub IsFollowed : Step → Seen → State → State → Type 0
IsFollowed step seen less after = IsMadeToo step less after ⊎ IsLeftOut step seen less after

-- ---- a run

-- Steps, and the same without some of the drains and settles.
abbrev pub AreFewerSteps : List Step → List Step → Type 0
AreFewerSteps [] fewer = fewer ≡ []
AreFewerSteps (step ∷ steps) fewer =
    ((made : Step) × (rest : List Step) × IsLike step made × (fewer ≡ made ∷ rest) × AreFewerSteps steps rest) ⊎ ((may_be_left_out step ≡ true) × AreFewerSteps steps fewer)

-- A run that leads to a state is one from another state too, less some drains and settles, and leads to what is thinner.
pub record IsRunToo (crashes : Bool) (steps : List Step) (less t : State) : Type 0 where
  pub fewer : List Step
  pub are_fewer : AreFewerSteps steps fewer
  pub run : IsRun crashes fewer less (run_of fewer less).state
  pub thinner : IsThinner t (run_of fewer less).state
