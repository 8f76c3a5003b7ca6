-- The enabled steps as masks, one bit a step. No rule of the model, and in no public clause.
use Rattle.std.specs.Prelude.{ℕ, ◌+◌, Bool, if◌then◌else◌, List, [], ◌∷◌, ◌++◌, map}
use Rattle.machine.specs.declared.step.Step.{Step}
use Rattle.machine.specs.declared.step.Step.TheVariants.{Exec, Drain, Persist, Settle}
use Rattle.schedule.specs.Masks.{numbers_in}

-- the Drain steps that the masks of processors have, of which the first has number p
abbrev pub drains_in : ℕ → List ℕ → List Step
drains_in p [] = []
drains_in p (mask ∷ masks) = map (Drain p) (numbers_in mask) ++ drains_in (p + 1) masks

-- the steps that masks have: those of processors, of each processor's places and of lines, and whether there is Settle
abbrev pub steps_in : ℕ → List ℕ → ℕ → Bool → List Step
steps_in execs drains persists settles =
    map Exec (numbers_in execs) ++ drains_in 0 drains ++ map Persist (numbers_in persists) ++ (if settles then Settle ∷ [] else [])
