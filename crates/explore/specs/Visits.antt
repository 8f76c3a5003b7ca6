-- What a visit to a state, to which a path leads, answers. No rule, and in no public clause.
use Rattle.std.specs.Prelude.{◌≡◌, ◌⊎◌, ℕ, ◌+◌, ◌<◌, ◌≤◌, Bool, true, false, Option, Some, None, Ok, Err, List, [], ◌∷◌, ◌++◌, Contains, length, slice_get}
use Rattle.std.specs.Option.{option_map_or}
use Rattle.store_buffer.specs.declared.entry.Entry.{Entry}
use Rattle.store_buffer.specs.declared.entry.Entry.TheVariants as entries
use Rattle.machine.specs.declared.step.Seen.{Seen}
use Rattle.machine.specs.declared.step.Step.{Step}
use Rattle.machine.specs.declared.step.Step.TheVariants.{Exec, Drain}
use Rattle.machine.specs.Limits.{max_turns}
use Rattle.machine.specs.State.{State}
use Rattle.machine.specs.Steps.{step_of}
use Rattle.conditions.specs.Formulas.{Formula}
use Rattle.images.specs.Images.{IsListing}
use Rattle.images.specs.Firsts.{IsLeastImage}
use Rattle.explore.specs.declared.node.Node.{Node}
use Rattle.explore.specs.declared.question.Question.{Question}
use Rattle.explore.specs.declared.verdict.Asked.{Asked}
use Rattle.explore.specs.declared.verdict.Asked.TheVariants as asks
use Rattle.explore.specs.declared.verdict.Failure.{Failure}
use Rattle.explore.specs.declared.visit.Stop.{Stop}
use Rattle.explore.specs.declared.visit.Stop.TheVariants.{Fails, Untold}
use Rattle.explore.specs.declared.visit.Sight.{Sight}
use Rattle.explore.specs.declared.visit.Sight.TheVariants.{Ends, Go}
use Rattle.explore.specs.Ahead.{counts_locals, may_pass}
use Rattle.explore.specs.Ends.{holds_at}
use Rattle.explore.specs.Explored.{ended, have_ended}
use Rattle.explore.specs.Followed.{owns_of}
use Rattle.explore.specs.Found.{Found, falls_of, led_to, moves_of, tries_of}
use Rattle.explore.specs.declared.gathered.Gathered.{Gathered}
use Rattle.explore.specs.Gathered.{IsNoted, ends_at, if_asked, runs_behind_all}
use Rattle.explore.specs.Keys.{list_key}
use Rattle.explore.specs.Sets.{included, included_all}
use Rattle.explore.specs.Questions.{FailsBy, IsVerdict, lists}
use Rattle.explore.specs.Reachable.{IsKept, IsRun, breaks}
use Rattle.explore.specs.Sound.{IsSound}

-- an exploration ends so
abbrev pub IsStopOf : Question → State → ℕ → Stop → Type 0
IsStopOf question start limit (Fails failure) = FailsBy failure.asked question start failure.run failure.values
IsStopOf question start limit (Untold fault) = IsVerdict question start limit (Err fault)

-- Wherever a run along the path leads to the state, the exploration ends so.
abbrev pub IsStop : Question → State → List Step → Stop → Type 0
IsStop question s path stop = (start : State) (limit : ℕ) → IsRun question.crashes path start s → IsStopOf question start limit stop

-- Where there is one, this is a failure, if a run can be made.
abbrev pub IsFailureIfMade : Question → State → List Step → Option Failure → Type 0
IsFailureIfMade question start run None = Unit {0}
IsFailureIfMade question start run (Some failure) = IsRun question.crashes run start (led_to start run) → FailsBy failure.asked question start failure.run failure.values

-- What may be told for what ends an exploration in the state to which a path leads: something that ends it, too; nothing, if it goes on.
abbrev pub MayBeToldFor : Question → State → List Step → Option Stop → Option Stop → Type 0
MayBeToldFor question start path None told = told ≡ None
MayBeToldFor question start path (Some stop) told =
    (limit : ℕ) → IsRun question.crashes path start (led_to start path) → IsStopOf question start limit stop → (by : Stop) × (told ≡ Some by) × IsStopOf question start limit by

-- the condition that is asked of such ends
abbrev pub asked_at : Bool → Question → Option Formula
asked_at false question = question.ends
asked_at true question = question.recovered

-- turns are left to persist all that is pending, and to crash
abbrev pub HasTurns : State → Type 0
HasTurns s = s.turns + length s.memory.pending < max_turns

-- the least image that makes a condition false, if one is asked for and there is one
abbrev pub BreaksBy : Option Formula → State → Option (List ℕ) → Type 0
BreaksBy None s found = found ≡ None
BreaksBy (Some condition) s found = IsLeastImage s (breaks condition s) found

-- the same, where these are the images of the state
abbrev pub BreaksAmong : Option Formula → State → List (List ℕ) → Option (List ℕ) → Type 0
BreaksAmong asked s images found = IsListing s images → BreaksBy asked s found

-- which condition that is
abbrev pub ask_of : Bool → Asked
ask_of false = asks.Ends
ask_of true = asks.Recovered

-- the images of a state, where each is listed, and each makes the condition true that is asked of them
pub record AreKept (question : Question) (s : State) (images : List (List ℕ)) : Type 0 where
  pub turns : HasTurns s
  pub listing : lists question ≡ true → IsListing s images
  pub kept : (condition : Formula) → question.all ≡ Some condition → IsKept condition s

-- the images of a state; or what ends the exploration
abbrev pub IsSight : Question → State → List Step → Sight → Type 0
IsSight question s path (Ends stop) = IsStop question s path stop
IsSight question s path (Go images) = AreKept question s images.items

-- an image of the state that a path leads to makes the condition false
abbrev pub broken_by : List ℕ → List Step → Sight
broken_by image path = Ends (Fails (record { asked = asks.All; values = image; run = path }))

-- The end of a state, if its processors have ended: its outcome is noted, and it makes the condition true that is asked of such ends,
-- or ends the exploration.
pub record IsEndSeen (question : Question) (recovered : Bool) (s : State) (path : List Step) (old : List (List ℕ)) (stop : Option Stop) (new : List (List ℕ)) : Type 0 where
  pub noted : new ≡ included_all old (ends_at recovered s)
  pub kept : stop ≡ None → (condition : Formula) → asked_at recovered question ≡ Some condition → have_ended recovered s ≡ true → holds_at condition (ended s) ≡ true
  pub stops : (by : Stop) → stop ≡ Some by → IsStop question s path by

-- the same of a node, which is to be sound and have turns left
abbrev pub SeesEnd : Question → Bool → Node → List (List ℕ) → List (List ℕ) → Option Stop → Type 0
SeesEnd question recovered node old new stop = IsSound node.state → HasTurns node.state → IsEndSeen question recovered node.state node.path old stop new

-- Ends of both kinds are seen.
pub record AreEndsSeen (question : Question) (s : State) (path : List Step) (old : Gathered) (stop : Option Stop) (new : Gathered) : Type 0 where
  pub noted : stop ≡ None → IsNoted s [] [] old new
  pub looked : stop ≡ None → new.looked ≡ old.looked
  pub ends : stop ≡ None → (condition : Formula) → question.ends ≡ Some condition → have_ended false s ≡ true → holds_at condition (ended s) ≡ true
  pub recovered : stop ≡ None → (condition : Formula) → question.recovered ≡ Some condition → have_ended true s ≡ true → holds_at condition (ended s) ≡ true
  pub stops : (by : Stop) → stop ≡ Some by → IsStop question s path by

abbrev pub SeesEnds : Question → Node → Gathered → Gathered → Option Stop → Type 0
SeesEnds question node old new stop = IsSound node.state → HasTurns node.state → AreEndsSeen question node.state node.path old stop new

-- with the crashes that leave each of some images, where runs crash
abbrev pub fallen_if : Bool → State → List Step → List (List ℕ) → Found → Found
fallen_if true s path images found = falls_of s path images found
fallen_if false s path images found = found

-- the same from a node
abbrev pub FallsIf : Bool → Node → List (List ℕ) → Found → Found → Type 0
FallsIf crashes node images old new = new ≡ fallen_if crashes node.state node.path images old

-- ---- images that are left to a later state

-- whether an entry that leaves a store buffer leaves no marker
abbrev pub leaves_no_marker : Entry → Bool
leaves_no_marker (entries.Write word value) = true
leaves_no_marker (entries.Flush line) = false
leaves_no_marker (entries.FlushOpt line) = false
leaves_no_marker entries.Sfence = true

-- whether what lines may hold they still may after a step: it is a processor's, and leaves no marker
abbrev pub takes_nothing : State → Step → Bool
takes_nothing s (Exec p) = true
takes_nothing s (Drain p i) = option_map_or (λ c. option_map_or leaves_no_marker (slice_get c.buffer i) false) (slice_get s.processors p) false
takes_nothing s _ = false

-- Such a step, and the own steps that follow, lead from a state to one that was not found before.
pub record GoesOn (locals : Bool) (s : State) (path : List Step) (old new : Found) : Type 0 where
  pub step : Step
  pub seen : Seen
  pub end : State
  pub made : step_of s step ≡ Ok (seen, end)
  pub keeps : takes_nothing s step ≡ true
  pub place : ℕ
  pub later : length old.paths ≤ place
  pub there : slice_get new.paths place ≡ Some (path ++ step ∷ owns_of locals end)

-- the same of a node, where it is told
abbrev pub GoesOnIf : Bool → Bool → Node → Found → Found → Type 0
GoesOnIf told locals node old new = told ≡ true → GoesOn locals node.state node.path old new

-- the images of a state, where they are not left to a later one; none, where they are
abbrev pub AreKeptOr : Bool → Question → State → List (List ℕ) → Type 0
AreKeptOr false question s images = AreKept question s images
AreKeptOr true question s images = HasTurns s × (images ≡ [])

-- the same; or what ends the exploration
abbrev pub IsSightOr : Bool → Question → State → List Step → Sight → Type 0
IsSightOr left question s path (Ends stop) = IsStop question s path stop
IsSightOr left question s path (Go images) = AreKeptOr left question s images.items

-- the images of a state; none, where they may be looked at once, and were, in a state of its memory
abbrev pub AreKeptOnce : Bool → Question → State → List (List ℕ) → List (List ℕ) → Type 0
AreKeptOnce once question s images old = AreKept question s images ⊎ ((once ≡ true) × HasTurns s × (images ≡ []) × Contains old (list_key s))

-- the images of a state, where they are not left to another one; and the memories that were looked at then
abbrev pub IsLook : Bool → Bool → Question → State → List (List ℕ) → List (List ℕ) → List (List ℕ) → Type 0
IsLook left once question s images old new =
    (AreKeptOr left question s images × (new ≡ old)) ⊎ (AreKeptOnce once question s images old × (new ≡ included old (list_key s)))

-- the same; or what ends the exploration
abbrev pub IsSightOnce : Bool → Bool → Question → State → List Step → List (List ℕ) → List (List ℕ) → Sight → Type 0
IsSightOnce left once question s path old new (Ends stop) = IsStop question s path stop
IsSightOnce left once question s path old new (Go images) = IsLook left once question s images.items old new

-- ---- a state in which no step is a processor's own

-- It keeps what is asked, what it gives is noted, and all that it leads to is found. Its images are listed, or left to a later state, or were looked at in
-- a state of its memory.
pub record IsWhole (question : Question) (s : State) (path : List Step) (old : Found) (gathered : Gathered) (new : Found) (noted : Gathered) : Type 0 where
  pub images : List (List ℕ)
  pub mid : Found
  pub turns : HasTurns s
  pub looked : ((AreKept question s images ⊎ ((images ≡ []) × (may_pass mid.sets question ≡ true) × GoesOn (counts_locals question) s path old mid)) × (noted.looked ≡ gathered.looked))
      ⊎ (AreKeptOnce (counts_locals question) question s images gathered.looked × (noted.looked ≡ included gathered.looked (list_key s)))
  pub ends : (condition : Formula) → question.ends ≡ Some condition → have_ended false s ≡ true → holds_at condition (ended s) ≡ true
  pub recovered : (condition : Formula) → question.recovered ≡ Some condition → have_ended true s ≡ true → holds_at condition (ended s) ≡ true
  pub gives : IsNoted s (if_asked question.images images) (runs_behind_all (counts_locals question) s (moves_of s)) gathered noted
  pub tried : ◌≡◌ {A = Option Step × Found} (tries_of (counts_locals question) s path (moves_of s) old) (None, mid)
  pub fallen : new ≡ fallen_if question.crashes s path images mid

-- or the exploration ends
abbrev pub IsTrial : Question → State → List Step → Found → Gathered → Option Stop → Found → Gathered → Type 0
IsTrial question s path old gathered None new noted = IsWhole question s path old gathered new noted
IsTrial question s path old gathered (Some stop) new noted = IsStop question s path stop
