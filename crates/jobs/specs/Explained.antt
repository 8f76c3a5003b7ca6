-- What explains a run that breaks a condition: what each of its crashes left, and of each write that is missing there, or in the image that
-- breaks the condition, whether it is told that it alone is enough.
use Rattle.std.specs.Prelude.{◌≡◌, ℕ, Option, None, List, All, map}
use Rattle.std.specs.Global.{Vec}
use Rattle.machine.specs.declared.step.Step.{Step}
use Rattle.machine.specs.Objects.{opening}
use Rattle.machine.specs.State.{State}
use Rattle.machine.specs.Steps.{run_of}
use Rattle.image_reasons.specs.Reasons.{missing_after}
use Rattle.explore.specs.declared.verdict.Asked.{Asked}
use Rattle.explore.specs.declared.verdict.Asked.TheVariants as asked
use Rattle.explore.specs.declared.verdict.Failure.{Failure}
use Rattle.causes.specs.declared.told.Told.{Told}
use Rattle.causes.specs.Enough.{AreTold, IsEnoughBehind, IsEnoughInImage, told_of}
use Rattle.jobs.specs.declared.explained.CrashTold.{CrashTold}
use Rattle.jobs.specs.declared.explained.Explained.{Explained}
use Rattle.jobs.specs.declared.start.Start.{Start}
use Rattle.jobs.specs.Crashes.{all_steps, crash_left, crashes_in, steps_before}

-- the state to which steps of a program lead
abbrev pub state_after : Start → List Step → State
state_after start steps = (run_of steps (opening start.object)).state

-- Of a crash is told what it left, and each write that is missing there. One that is told as enough is so: had it persisted too, all runs
-- from the crash would keep what is asked.
pub record IsCrashTold (states : ℕ) (start : Start) (failure : Failure) (told : CrashTold) : Type 0 where
  pub image : told.image ≡ crash_left start failure told.place
  pub missing : AreTold (IsEnoughBehind start.question states (state_after start (steps_before start failure told.place)))
      (missing_after start.object (steps_before start failure told.place) told.image) (told_of told.missing)

-- Of the image that breaks a condition each write is told that is missing in it. One that is told as enough is so: had it persisted too, the
-- condition would be true. The values at an end are no image.
abbrev pub IsLastTold : Start → Failure → Asked → Option (Vec Told) → Type 0
IsLastTold start failure asked.All told =
    AreTold (IsEnoughInImage start.question (state_after start (all_steps start failure)) failure.values)
    (missing_after start.object (all_steps start failure) failure.values) (told_of told)
IsLastTold start failure asked.Ends told = told ≡ None
IsLastTold start failure asked.Recovered told = told ≡ None

-- Each crash of the run is told, in order, and then the image that breaks the condition.
pub record IsExplanation (states : ℕ) (start : Start) (failure : Failure) (told : Explained) : Type 0 where
  pub places : map (λ crash. crash.place) told.crashes.items ≡ crashes_in failure.run
  pub crashes : All (IsCrashTold states start failure) told.crashes.items
  pub last : IsLastTold start failure failure.asked told.last
