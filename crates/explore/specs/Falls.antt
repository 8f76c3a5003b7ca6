-- A crash that leaves one of the images of a state: the steps that lead there. No rule, and in no public clause.
use Rattle.std.specs.Prelude.{◌≡◌, ℕ, Bool, None, List, [], ◌∷◌, ◌++◌, map, slice_index_or}
use Rattle.lines_layout.specs.Lines.{line_of}
use Rattle.persist_buffer.specs.declared.entry.PendingEntry.{PendingEntry}
use Rattle.persist_buffer.specs.declared.entry.PendingEntry.TheVariants.{Write, Marker}
use Rattle.pending_images.specs.ClosedSets.{flagged}
use Rattle.machine.specs.declared.step.Step.{Step}
use Rattle.machine.specs.declared.step.Step.TheVariants.{Persist, Settle, Crash}
use Rattle.machine.specs.State.{State}
use Rattle.machine.specs.Steps.{run_of}
use Rattle.explore.specs.Explored.{fallen}
use Rattle.explore.specs.Questions.{AreAlike}

-- the step by which an entry leaves the pending list
abbrev pub step_for : PendingEntry → Step
step_for (Write word value) = Persist (line_of word)
step_for (Marker line) = Settle

-- the entries of a set leave, one after another, and then the machine crashes
abbrev pub fall_by : List PendingEntry → List Bool → List Step
fall_by pending flags = map step_for (flagged pending flags) ++ Crash ∷ []

-- the same, where the set is given by its places
abbrev pub fall_at : List PendingEntry → List ℕ → List Step
fall_at pending places = map (λ place. step_for (slice_index_or pending place (Marker 0))) places ++ Crash ∷ []

-- Steps that are all accepted, and leave what a crash leaves where these values are persisted.
pub record IsFall (s : State) (persisted : List ℕ) (steps : List Step) : Type 0 where
  pub accepted : (run_of steps s).refusal ≡ None
  pub leaves : AreAlike (run_of steps s).state (fallen s persisted)
