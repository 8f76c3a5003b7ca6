-- What `Crashes` says of schedules, in the words of images. (`IsSound` asks less than that of `explore/specs/Sound`.)
use Rattle.std.specs.Prelude.{◌≡◌, ◌↔◌, ℕ, ◌+◌, ◌<◌, ◌≤◌, true, not, None, Some, List, length}
use Rattle.lines_layout.specs.Lines.{max_words}
use Rattle.lines_layout.specs.Shapes.{IsShape}
use Rattle.isa.specs.Objects.{Object}
use Rattle.machine.specs.declared.step.Step.{Step}
use Rattle.machine.specs.Objects.{opening}
use Rattle.machine.specs.Programs.{IsWithinShape}
use Rattle.machine.specs.State.{State}
use Rattle.machine.specs.Steps.{run_of}
use Rattle.schedule.specs.declared.plan.Plan.{Plan}
use Rattle.conditions.specs.Formulas.{Formula}
use Rattle.pending_images.specs.Candidates.{candidates, most_candidates}
use Rattle.images.specs.Images.{IsImage}
use Rattle.images.specs.Firsts.{IsLeastImage}
use Rattle.images.specs.Truth.{holds_on}
use Rattle.hunt.specs.Crashes.{broken_in, state_at, states_of}
use Rattle.hunt.specs.declared.loss.Breach.{Breach}
use Rattle.hunt.specs.declared.loss.Breach.TheVariants.{Leaves, TooMany}
use Rattle.hunt.specs.declared.loss.Loss.{Loss}

-- A state that a loaded machine can have: its lines are those of a layout, each word of a layout has a persisted value, and
-- no word is named, buffered or pending but those of its lines.
pub record IsSound (s : State) : Type 0 where
  pub shape : IsShape s.shape
  pub persisted : length s.memory.persisted ≡ max_words
  pub within : IsWithinShape s

-- No crash in this state leaves a memory that breaks the condition, and its candidates can be counted.
pub record IsSafe (condition : Formula) (s : State) : Type 0 where
  pub told : candidates s.memory.pending ≤ most_candidates
  pub holds : (image : List ℕ) → IsImage s image → holds_on s condition image ≡ true

-- What breaks the condition in this state: too many candidates, or else the least image that makes it false.
abbrev pub IsBreach : Formula → State → Breach → Type 0
IsBreach condition s TooMany = most_candidates < candidates s.memory.pending
IsBreach condition s (Leaves image) =
    (candidates s.memory.pending ≤ most_candidates) × IsLeastImage s (λ other. not (holds_on s condition other)) (Some image)

-- No crash after any turn of any of the schedules from `first` on and below `end` leaves a memory that breaks the condition.
abbrev pub AreSafe : Plan → Formula → State → ℕ → ℕ → Type 0
AreSafe plan condition start first end =
    (number turn : ℕ) → first ≤ number → number < end → turn < states_of plan start number → IsSafe condition (state_at plan start number turn)

-- The least of the n schedules from `first` on, and in it the least turn, after which a crash may leave a memory that breaks
-- the condition.
pub record IsLeastLoss (plan : Plan) (condition : Formula) (start : State) (first n : ℕ) (loss : Loss) : Type 0 where
  pub from : first ≤ loss.at.number
  pub below : loss.at.number < first + n
  pub within : loss.at.turn < states_of plan start loss.at.number
  pub breach : IsBreach condition (state_at plan start loss.at.number loss.at.turn) loss.breach
  pub before : AreSafe plan condition start first loss.at.number
  pub sooner : (turn : ℕ) → turn < loss.at.turn → IsSafe condition (state_at plan start loss.at.number turn)

-- Each state to which steps lead from the opening of an object is sound.
abbrev pub HasSoundStates : Object → Type 0
HasSoundStates object = (steps : List Step) → IsSound (run_of steps (opening object)).state

-- What is told of a state is none exactly when it is safe.
abbrev pub TellsSafe : Formula → State → Type 0
TellsSafe condition s = (broken_in condition s ≡ None) ↔ IsSafe condition s

-- What is told of it breaks the condition.
abbrev pub TellsBreach : Formula → State → Type 0
TellsBreach condition s = (breach : Breach) → broken_in condition s ≡ Some breach → IsBreach condition s breach
