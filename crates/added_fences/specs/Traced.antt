-- Steps and runs of a state, and those of a leaner one that stand for them.
use Rattle.std.specs.Prelude.{◌≡◌, ◌⊎◌, Bool, true, false, Ok, List, [], ◌∷◌}
use Rattle.processor.specs.declared.act.Act.{Act}
use Rattle.processor.specs.declared.act.Act.TheVariants as acts
use Rattle.machine.specs.declared.step.Seen.{Seen}
use Rattle.machine.specs.declared.step.Seen.TheVariants.{Ran, Left, Persisted, Settled, Crashed}
use Rattle.machine.specs.declared.step.Step.{Step}
use Rattle.machine.specs.declared.step.Step.TheVariants.{Exec, Drain, Persist, Settle, Crash}
use Rattle.machine.specs.State.{State}
use Rattle.machine.specs.Steps.{run_of, step_of}
use Rattle.explore.specs.Reachable.{IsRun}
use Rattle.fewer_fences.specs.Followed.{IsLike}
use Rattle.fewer_fences.specs.Thinner.{is_no_write}
use Rattle.added_fences.specs.Added.{IsLeaner}

-- ---- a step

-- whether a step may be left out: an exec, a drain, or a settle
abbrev pub may_be_spared : Step → Bool
may_be_spared (Exec p) = true
may_be_spared (Drain p i) = true
may_be_spared (Persist line) = false
may_be_spared Settle = true
may_be_spared Crash = false

-- whether an act is that of a fence or of a flush
abbrev pub orders_alone : Act → Bool
orders_alone acts.Local = false
orders_alone acts.Fence = true
orders_alone (acts.Read word value) = false
orders_alone (acts.Delay entry) = is_no_write entry
orders_alone (acts.Locked word value new) = false
orders_alone (acts.Trap address) = false

-- whether a step shows that a fence or a flush ran or left its store buffer, or that a marker went
abbrev pub shows_order_alone : Seen → Bool
shows_order_alone (Ran p place act) = orders_alone act
shows_order_alone (Left p i entry) = is_no_write entry
shows_order_alone (Persisted word value) = false
shows_order_alone (Settled line) = true
shows_order_alone (Crashed n) = false

-- The step that leads to a state is made in the leaner one too, and leads to what is leaner still.
pub record IsMadeToo (step : Step) (less after : State) : Type 0 where
  pub made : Step
  pub alike : IsLike step made
  pub seen : Seen
  pub end : State
  pub accepted : step_of less made ≡ Ok (seen, end)
  pub leaner : IsLeaner after end

-- Or the leaner one lacks what ran, or what leaves a store buffer or the pending list, and is what is leaner still.
pub record IsSpared (step : Step) (seen : Seen) (less after : State) : Type 0 where
  pub spared : may_be_spared step ≡ true
  pub shown : shows_order_alone seen ≡ true
  pub leaner : IsLeaner after less

-- A step that shows this and leads to a state is traced from another one: by one step, or by none.
abbrev pub IsTraced : Step → Seen → State → State → Type 0
IsTraced step seen less after = IsMadeToo step less after ⊎ IsSpared step seen less after

-- ---- a run

-- Steps, and the same without some of the execs, drains and settles.
abbrev pub AreSomeSteps : List Step → List Step → Type 0
AreSomeSteps [] fewer = fewer ≡ []
AreSomeSteps (step ∷ steps) fewer =
    ((made : Step) × (rest : List Step) × IsLike step made × (fewer ≡ made ∷ rest) × AreSomeSteps steps rest) ⊎ ((may_be_spared step ≡ true) × AreSomeSteps steps fewer)

-- A run that leads to a state is one from another state too, less some execs, drains and settles, and leads to what is leaner.
pub record IsRunToo (crashes : Bool) (steps : List Step) (less t : State) : Type 0 where
  pub fewer : List Step
  pub are_some : AreSomeSteps steps fewer
  pub run : IsRun crashes fewer less (run_of fewer less).state
  pub leaner : IsLeaner t (run_of fewer less).state
