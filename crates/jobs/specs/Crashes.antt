-- The crashes of a run that breaks a condition: where each is among its steps, and what it left.
use Rattle.std.specs.Prelude.{ℕ, ◌+◌, if◌then◌else◌, List, [], ◌∷◌, ◌++◌, take}
use Rattle.isa.specs.Objects.{Object}
use Rattle.pending_images.specs.Images.{image_now}
use Rattle.images.specs.Images.{pending_of}
use Rattle.machine.specs.declared.step.Step.{Step}
use Rattle.machine.specs.Objects.{opening}
use Rattle.machine.specs.Steps.{run_of}
use Rattle.explore.specs.declared.verdict.Failure.{Failure}
use Rattle.explore.specs.Reachable.{is_crash}
use Rattle.jobs.specs.declared.start.Start.{Start}

-- the place of a step, if it is a crash
abbrev pub crash_at : ℕ → Step → List ℕ
crash_at place step = if is_crash step then place ∷ [] else []

-- the places of the crashes among steps, of which the first has this place
abbrev pub crashes_from : ℕ → List Step → List ℕ
crashes_from place [] = []
crashes_from place (step ∷ steps) = crash_at place step ++ crashes_from (place + 1) steps

-- the same where it is the first of all
abbrev pub crashes_in : List Step → List ℕ
crashes_in steps = crashes_from 0 steps

-- the steps that lead to a place of the run: the given ones, and those of the run before it
abbrev pub steps_before : Start → Failure → ℕ → List Step
steps_before start failure place = start.given.steps ++ take place failure.run

-- what a crash leaves after these steps: the value of each word that has persisted
abbrev pub left_after : Object → List Step → List ℕ
left_after object steps = image_now (pending_of (run_of steps (opening object)).state)

-- what the crash at a place of the run left
abbrev pub crash_left : Start → Failure → ℕ → List ℕ
crash_left start failure place = left_after start.object (steps_before start failure place)

-- the steps that lead to where the run ends: the given ones, and those of the run
abbrev pub all_steps : Start → Failure → List Step
all_steps start failure = start.given.steps ++ failure.run
