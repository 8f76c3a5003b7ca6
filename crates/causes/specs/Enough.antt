-- Which of the writes that are missing are enough alone: had one persisted too, what was asked would hold from there.
use Rattle.std.specs.Prelude.{◌≡◌, ℕ, ◌<◌, ◌==◌, ◌&&◌, Bool, true, false, not, Option, Some, None, Ok, List, length, map, option_map, position, slice_index_or}
use Rattle.std.specs.List.{list_any}
use Rattle.std.specs.Global.{Vec}
use Rattle.pending_images.specs.Images.{image_now}
use Rattle.machine.specs.declared.step.Seen.{Seen}
use Rattle.machine.specs.declared.step.Step.{Step}
use Rattle.machine.specs.declared.step.Step.TheVariants.{Exec, Drain, Persist, Settle, Crash}
use Rattle.machine.specs.State.{State, persisted_at}
use Rattle.machine.specs.Steps.{run_of, step_of}
use Rattle.conditions.specs.Formulas.{Formula}
use Rattle.images.specs.Images.{pending_of}
use Rattle.images.specs.Truth.{holds_on}
use Rattle.image_reasons.specs.declared.missing.Missing.{Missing}
use Rattle.explore.specs.declared.question.Question.{Question}
use Rattle.explore.specs.declared.verdict.Verdict.TheVariants.{Holds}
use Rattle.explore.specs.Findings.{Findings}
use Rattle.explore.specs.Questions.{IsVerdict}
use Rattle.causes.specs.declared.told.Told.{Told}

-- ---- a write that goes on

-- whether a step runs an instruction, or crashes
abbrev pub acts : Step → Bool
acts (Exec p) = true
acts Crash = true
acts (Drain p i) = false
acts (Persist line) = false
acts Settle = false

-- Drains, persists and settles alone lead from one state to another: no instruction runs, and nothing crashes.
pub record LeadsOn (s t : State) : Type 0 where
  pub steps : List Step
  pub quiet : list_any acts steps ≡ false
  pub accepted : (run_of steps s).refusal ≡ None
  pub leads : (run_of steps s).state ≡ t

-- They lead to where a crash leaves an image: so much has persisted.
pub record HasLeft (s : State) (image : List ℕ) (t : State) : Type 0 where
  pub on : LeadsOn s t
  pub left : image_now (pending_of t) ≡ image

-- They lead to where a missing write has persisted: its word has its value.
pub record HasPersisted (s : State) (write : Missing) (t : State) : Type 0 where
  pub on : LeadsOn s t
  pub there : persisted_at t write.word ≡ Some write.value

-- ---- what was asked holds from there

-- Right is a verdict that what is asked holds in all runs from a state, of which at most so many states are told apart.
abbrev pub Keeps : Question → ℕ → State → Type 0
Keeps question limit s = (found : Findings) × IsVerdict question s limit (Ok (Holds found))

-- A crash leads from a state to one from which all runs keep what is asked.
pub record KeepsBehind (question : Question) (limit : ℕ) (s : State) : Type 0 where
  pub seen : Seen
  pub left : State
  pub crashed : step_of s Crash ≡ Ok (seen, left)
  pub keeps : Keeps question limit left

-- The condition that is asked of all images is true of what a crash leaves in a state.
pub record KeepsImage (question : Question) (s : State) : Type 0 where
  pub condition : Formula
  pub asked : question.all ≡ Some condition
  pub holds : holds_on s condition (image_now (pending_of s)) ≡ true

-- ---- enough

-- A write that is missing in what a crash left is enough alone: it has persisted in some state, and behind a crash there all runs keep
-- what is asked.
abbrev pub IsEnoughBehind : Question → ℕ → State → Missing → Type 0
IsEnoughBehind question limit s write = (t : State) × HasPersisted s write t × KeepsBehind question limit t

-- It has persisted in some state, and what a crash leaves there makes the condition true.
abbrev pub IsEnoughHere : Question → State → Missing → Type 0
IsEnoughHere question s write = (t : State) × HasPersisted s write t × KeepsImage question t

-- One that is missing in an image is enough alone: from where the image is left, with all that it has, it goes on and persists too, and what a
-- crash then leaves makes the condition true.
abbrev pub IsEnoughInImage : Question → State → List ℕ → Missing → Type 0
IsEnoughInImage question s image write = (u : State) × HasLeft s image u × IsEnoughHere question u write

-- ---- what is told

-- of how many missing writes it is asked at most whether they are enough
abbrev pub most_tried : ℕ
most_tried = 64

-- whether another missing write writes the same value to the same word
abbrev pub writes_same : Missing → Missing → Bool
writes_same write other = (other.word == write.word) && (other.value == write.value)

-- whether it does, and is of another processor
abbrev pub is_of_another : Missing → Missing → Bool
is_of_another write other = writes_same write other && not (other.site.processor == write.site.processor)

-- whether one of these does
abbrev pub is_of_others : List Missing → Missing → Bool
is_of_others missing write = list_any (is_of_another write) missing

-- whether this is the place
abbrev pub is_place : ℕ → Option ℕ → Bool
is_place i (Some place) = place == i
is_place i None = false

-- Whether the missing write at place i is the first that writes the same, and none of another processor does. Its word has another value where
-- a crash leaves the image. So once it has this value, this write has persisted, and not only another one that writes the same: of the pending
-- writes of a line the oldest goes first, and so it is of one processor's buffered writes to a word.
abbrev pub is_first : List Missing → ℕ → Missing → Bool
is_first missing i write = is_place i (position (writes_same write) missing) && not (is_of_others missing write)

-- A write that is told as enough at place i is the first that writes the same, and is enough.
abbrev pub IsRight : (Missing → Type 0) → List Missing → ℕ → Told → Type 0
IsRight IsEnough missing i told = told.enough ≡ true → (is_first missing i told.write ≡ true) × IsEnough told.write

-- what is told at each place is right
abbrev pub AreRight : (Missing → Type 0) → List Missing → List Told → Type 0
AreRight IsEnough missing told = (i : ℕ) (d : Told) → i < length told → IsRight IsEnough missing i (slice_index_or told i d)

-- Each missing write is told, in order; and each that is told as enough is so.
pub record AreAllTold (IsEnough : Missing → Type 0) (missing : List Missing) (told : List Told) : Type 0 where
  pub writes : map (λ t. t.write) told ≡ missing
  pub enough : AreRight IsEnough missing told

-- The same of writes that may not be known.
abbrev pub AreTold : (Missing → Type 0) → Option (List Missing) → Option (List Told) → Type 0
AreTold IsEnough (Some missing) (Some told) = AreAllTold IsEnough missing told
AreTold IsEnough None told = told ≡ None
AreTold IsEnough (Some missing) None = ⊥

-- what a call told, where it told any
abbrev pub told_of : Option (Vec Told) → Option (List Told)
told_of told = option_map (λ writes. writes.items) told
