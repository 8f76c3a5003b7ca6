-- How far an exploration has come. No rule, and in no public clause.
use Rattle.std.specs.Prelude.{◌≡◌, ℕ, Bool, ◌+◌, ◌<◌, ◌≤◌, Option, Some, None, Result, List, [], Contains, length, map, slice_get}
use Rattle.machine.specs.declared.step.Step.{Step}
use Rattle.machine.specs.State.{State}
use Rattle.explore.specs.declared.search.Search.{Search}
use Rattle.explore.specs.declared.fault.ExploreFault.{ExploreFault}
use Rattle.explore.specs.declared.question.Question.{Question}
use Rattle.explore.specs.declared.verdict.Verdict.{Verdict}
use Rattle.explore.specs.declared.visit.Stop.{Stop}
use Rattle.explore.specs.Ahead.{IsClosed, by_sets, counts_locals}
use Rattle.explore.specs.Explored.{IsAmong}
use Rattle.explore.specs.Found.{Found, added, led_to, no_states, nodes_of}
use Rattle.explore.specs.declared.gathered.Gathered.{Gathered}
use Rattle.explore.specs.Gathered.{IsGathered, none_gathered}
use Rattle.explore.specs.Keys.{key_of}
use Rattle.explore.specs.Questions.{IsVerdict}
use Rattle.explore.specs.Reachable.{IsRun}
use Rattle.explore.specs.Sound.{IsSound}
use Rattle.explore.specs.Visits.{IsStopOf, IsTrial}

-- In what follows `sets` is true where keys tell what each line may hold, and false where they tell what is pending and persisted (`Keys: memory_key`).

-- The paths are runs, the keys are of this kind and those of the states that they lead to, and no two have the same.
pub record AreFound (sets crashes : Bool) (start : State) (found : Found) : Type 0 where
  pub mode : found.sets ≡ sets
  pub runs : (path : List Step) → Contains found.paths path → IsRun crashes path start (led_to start path)
  pub keyed : found.keys ≡ map (λ path. key_of sets (led_to start path)) found.paths
  pub distinct : (i j : ℕ) (p q : List Step) → i < j → slice_get found.paths i ≡ Some p → slice_get found.paths j ≡ Some q → key_of sets (led_to start p) ≡ key_of sets (led_to start q) → ⊥

-- The state of a number keeps what is asked, its images are looked at, here or later, and all that it leads to is found; or own steps follow it, and
-- what they lead to is.
abbrev pub IsVisited : Bool → Bool → Question → State → List (List Step) → ℕ → List Step → Type 0
IsVisited sets locals question start paths i path = IsClosed sets locals question (nodes_of start paths) i (led_to start path)

-- the first of the paths lead to states that were visited
pub record IsExploring (sets locals : Bool) (question : Question) (start : State) (now : Found) (at : ℕ) : Type 0 where
  pub found : AreFound sets question.crashes start now
  pub first : IsAmong sets (nodes_of start now.paths) start
  pub within : at ≤ length now.paths
  pub visited : (i : ℕ) (path : List Step) → i < at → slice_get now.paths i ≡ Some path → IsVisited sets locals question start now.paths i path

-- and what they give is gathered
pub record IsUnderWay (question : Question) (start : State) (now : Found) (gathered : Gathered) (at : ℕ) : Type 0 where
  pub exploring : IsExploring (by_sets question start) (counts_locals question) question start now at
  pub gives : IsGathered question start now.paths at gathered

-- what a visit comes to: one more is visited, or the exploration ends
abbrev pub IsVisit : Question → State → ℕ → ℕ → Option Stop → Found → Gathered → Type 0
IsVisit question start limit at None new gathered = IsUnderWay question start new gathered (at + 1)
IsVisit question start limit at (Some stop) new gathered = IsStopOf question start limit stop

-- a visit to the state of a number, where those before it were visited
abbrev pub Visits : Question → State → ℕ → Search → Search → Option Stop → Type 0
Visits question start at old new stop =
    (limit : ℕ) → IsSound start → IsUnderWay question start old.found old.gathered at → IsVisit question start limit at stop new.found new.gathered

-- the part of it that tries all steps of the node, and where runs crash, each crash
abbrev pub TriesWhole : Question → Search → Search → Option Stop → Type 0
TriesWhole question old new stop =
    IsSound old.node.state → IsTrial question old.node.state old.node.path old.found old.gathered stop new.found new.gathered

-- all that was found was visited; or the exploration ends so
abbrev pub IsExplored : Question → State → ℕ → Option Stop → Found → Gathered → Type 0
IsExplored question start limit None found gathered = (at : ℕ) × (length found.paths ≤ at) × (at ≤ limit) × IsUnderWay question start found gathered at
IsExplored question start limit (Some stop) found gathered = IsStopOf question start limit stop

-- The start is found, and nothing is visited.
abbrev pub HasBegun : Question → State → Search → Type 0
HasBegun question start search = (search.found ≡ added (no_states (by_sets question start)) (key_of (by_sets question start) start) []) × (search.gathered ≡ none_gathered)

-- a search from its beginning to its end
abbrev pub Explores : Question → State → ℕ → Search → Search → Option Stop → Type 0
Explores question start limit old new stop =
    IsSound start → IsUnderWay question start old.found old.gathered 0 → IsExplored question start limit stop new.found new.gathered

-- what is answered where a search that found so many states, and gathered this, ended so
abbrev pub IsToldBy : Option Stop → ℕ → Gathered → Result Verdict ExploreFault → Type 0
IsToldBy stop states gathered verdict = (question : Question) (start : State) (limit : ℕ) (found : Found)
    → IsSound start → states ≡ length found.paths → IsExplored question start limit stop found gathered → IsVerdict question start limit verdict
