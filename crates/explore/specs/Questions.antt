-- What is asked of every run, and what is answered.
use Rattle.std.specs.Prelude.{◌≡◌, ◌↔◌, ◌⊎◌, ℕ, ◌<◌, ◌≤◌, ◌^◌, Bool, true, false, ◌||◌, Some, Result, Ok, Err, List, Contains, is_some, length, slice_get}
use Rattle.machine.specs.declared.refusal.Refusal.{Refusal}
use Rattle.machine.specs.declared.refusal.Refusal.TheVariants.{LineFull, MarkersFull}
use Rattle.machine.specs.declared.step.Step.{Step}
use Rattle.machine.specs.declared.step.Step.TheVariants.{Exec, Drain, Persist, Settle, Crash}
use Rattle.machine.specs.State.{State}
use Rattle.machine.specs.Steps.{run_of, step_of}
use Rattle.conditions.specs.Formulas.{Formula}
use Rattle.pending_images.specs.Candidates.{most_candidates}
use Rattle.images.specs.Images.{image_at}
use Rattle.images.specs.Firsts.{IsLeastImage}
use Rattle.explore.specs.declared.question.Question.{Question}
use Rattle.explore.specs.declared.verdict.Asked.{Asked}
use Rattle.explore.specs.declared.verdict.Asked.TheVariants.{All, Ends, Recovered}
use Rattle.explore.specs.Asked.{tried_candidates}
use Rattle.explore.specs.Findings.{Findings, HasRun}
use Rattle.explore.specs.declared.verdict.Verdict.{Verdict}
use Rattle.explore.specs.declared.verdict.Verdict.TheVariants.{Holds, Fails}
use Rattle.explore.specs.declared.fault.ExploreFault.{ExploreFault}
use Rattle.explore.specs.declared.fault.ExploreFault.TheVariants.{TooManyStates, NoRoom, TooMany, NoMemory}
use Rattle.explore.specs.Ends.{IsEndOf, IsTrueAtEnds, holds_at}
use Rattle.explore.specs.Outcomes.{AreOutcomes}
use Rattle.explore.specs.Ran.{IsRan}
use Rattle.explore.specs.Reachable.{IsAlwaysKept, IsReachable, IsRun, breaks}
use Rattle.explore.specs.RunImages.{AreImagesOfRuns}

-- ---- all holds

-- Each condition that is asked for is true of all that runs reach.
pub record IsAnswered (question : Question) (start : State) : Type 0 where
  pub all : (condition : Formula) → question.all ≡ Some condition → IsAlwaysKept question.crashes condition start
  pub ends : (condition : Formula) → question.ends ≡ Some condition → IsTrueAtEnds question.crashes false condition start
  pub recovered : (condition : Formula) → question.recovered ≡ Some condition → IsTrueAtEnds question.crashes true condition start

-- Two states are the same but for the counts of turns and crashes.
pub record AreAlike (a b : State) : Type 0 where
  pub shape : b.shape ≡ a.shape
  pub processors : b.processors ≡ a.processors
  pub memory : b.memory ≡ a.memory

-- Runs that lead to different states: no two are alike.
pub record AreToldApart (crashes : Bool) (start : State) (runs : List (List Step)) : Type 0 where
  pub each : (run : List Step) → Contains runs run → IsRun crashes run start (run_of run start).state
  pub apart : (i j : ℕ) (one other : List Step) → i < j → slice_get runs i ≡ Some one → slice_get runs j ≡ Some other
      → AreAlike (run_of one start).state (run_of other start).state → ⊥

-- So many states that runs reach can be told apart.
abbrev pub AreStates : Bool → State → ℕ → Type 0
AreStates crashes start states = (runs : List (List Step)) × AreToldApart crashes start runs × (length runs ≡ states)

-- What is found where each condition holds: how many states were told apart, the outcomes of all ends, the images of all states, where they
-- are asked for, and which instructions run.
pub record AreFindings (question : Question) (start : State) (limit : ℕ) (found : Findings) : Type 0 where
  pub answered : IsAnswered question start
  pub states : AreStates question.crashes start found.states
  pub within : found.states ≤ limit
  pub ends : AreOutcomes question.crashes false start found.ends
  pub recovered : AreOutcomes question.crashes true start found.recovered
  pub images : question.images ≡ true → AreImagesOfRuns question.crashes start found.images
  pub ran : (p : ℕ) (recovery : Bool) (place : ℕ) → HasRun found p recovery place ↔ IsRan question.crashes start p recovery place

-- ---- images that are looked at

-- whether each image of a state is listed: where runs crash, for each is then explored, and where the images are asked for
abbrev pub lists : Question → Bool
lists question = question.crashes || question.images

-- whether the images of states are looked at: where each is listed, and where a condition is asked of them
abbrev pub looks : Question → Bool
looks question = lists question || is_some question.all

-- ---- one fails

-- A run leads to a state in which a crash may leave this image, which makes the condition false; it is the least.
pub record IsBroken (question : Question) (condition : Formula) (start : State) (run : List Step) (image : List ℕ) : Type 0 where
  pub is_run : IsRun question.crashes run start (run_of run start).state
  pub few : tried_candidates (lists question) (Some condition) (run_of run start).state ≤ most_candidates
  pub least : IsLeastImage (run_of run start).state (breaks condition (run_of run start).state) (Some image)

-- A run leads to an end, after a crash or before the first one, which makes the condition false; its words have these values.
pub record IsFalseEnd (crashes recovered : Bool) (condition : Formula) (start : State) (run : List Step) (values : List ℕ) : Type 0 where
  pub is_run : IsRun crashes run start (run_of run start).state
  pub end : IsEndOf crashes recovered start (run_of run start).state
  pub false_there : holds_at condition (run_of run start).state ≡ false
  pub shown : values ≡ image_at (run_of run start).state.shape (run_of run start).state.memory.persisted

abbrev pub FailsBy : Asked → Question → State → List Step → List ℕ → Type 0
FailsBy All question start run values = (condition : Formula) × (question.all ≡ Some condition) × IsBroken question condition start run values
FailsBy Ends question start run values = (condition : Formula) × (question.ends ≡ Some condition) × IsFalseEnd question.crashes false condition start run values
FailsBy Recovered question start run values = (condition : Formula) × (question.recovered ≡ Some condition) × IsFalseEnd question.crashes true condition start run values

-- ---- it is not told

-- More states than the limit can be told apart.
abbrev pub IsMany : Bool → State → ℕ → Type 0
IsMany crashes start limit = (runs : List (List Step)) × AreToldApart crashes start runs × (limit < length runs)

-- whether a step is one of a processor
abbrev pub is_move : Step → Bool
is_move (Exec p) = true
is_move (Drain p i) = true
is_move (Persist line) = false
is_move Settle = false
is_move Crash = false

-- whether a refusal says that the pending list has no room
abbrev pub is_room : Refusal → Bool
is_room LineFull = true
is_room MarkersFull = true
is_room _ = false

-- A processor of a state waits for room in the pending list.
pub record IsWaiting (t : State) : Type 0 where
  pub step : Step
  pub move : is_move step ≡ true
  pub refusal : Refusal
  pub refused : step_of t step ≡ Err refusal
  pub room : is_room refusal ≡ true

-- Some run leads to a state in which a processor waits for room in the pending list.
abbrev pub LacksRoom : Bool → State → Type 0
LacksRoom crashes start = (t : State) × IsReachable crashes start t × IsWaiting t

-- how many steps wear a machine: fewer leave so many turns that no list of steps that fits into memory spends them
abbrev pub most_turns_before : ℕ
most_turns_before = 2 ^ 61

-- the machine has made so many steps
abbrev pub IsWorn : State → Type 0
IsWorn start = most_turns_before ≤ start.turns

-- Images are looked at, and some run leads to a state with more candidates that are tried than 65,536.
pub record HasTooMany (question : Question) (start : State) : Type 0 where
  pub looked : looks question ≡ true
  pub state : State
  pub reached : IsReachable question.crashes start state
  pub many : most_candidates < tried_candidates (lists question) question.all state

-- ---- the verdict

-- What is answered of every run from a state, where at most so many states are told apart.
abbrev pub IsVerdict : Question → State → ℕ → Result Verdict ExploreFault → Type 0
IsVerdict question start limit (Ok (Holds found)) = AreFindings question start limit found
IsVerdict question start limit (Ok (Fails failure)) = FailsBy failure.asked question start failure.run failure.values
IsVerdict question start limit (Err TooManyStates) = IsMany question.crashes start limit
IsVerdict question start limit (Err NoRoom) = LacksRoom question.crashes start ⊎ IsWorn start
IsVerdict question start limit (Err TooMany) = HasTooMany question start
IsVerdict question start limit (Err NoMemory) = Unit {0}
