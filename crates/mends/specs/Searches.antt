-- How far a search for the least set has come.
use Rattle.std.specs.Prelude.{◌≡◌, ◌⊎◌, ℕ, ◌+◌, ◌<◌, Bool, true, Option, Some, None, List, length, slice_get}
use Rattle.std.specs.Global.{Vec}
use Rattle.std.specs.List.{All}
use Rattle.isa.specs.Objects.{Object}
use Rattle.explore.specs.declared.question.Question.{Question}
use Rattle.image_reasons.specs.declared.repair.Repair.{Repair}
use Rattle.verdicts.specs.Verdicts.{IsBrokenBy}
use Rattle.candidates.specs.Candidates.{candidates_of}
use Rattle.candidates.specs.Sets.{costs_of}
use Rattle.choices.specs.Choices.{is_within}
use Rattle.choices.specs.Waiting.{AreChoices, HasWithin, weight, weight_of}
use Rattle.mends.specs.declared.search.Search.{Search}
use Rattle.mends.specs.declared.task.Task.{Task}
use Rattle.mends.specs.declared.tried.Tried.{Tried}
use Rattle.mends.specs.declared.tried.Tried.TheVariants.{NoProgram, Broken, Holds, Untold}
use Rattle.mends.specs.declared.turn.Answer.{Answer}
use Rattle.mends.specs.declared.turn.Answer.TheVariants as answers
use Rattle.mends.specs.declared.turn.Turn.{Turn}
use Rattle.mends.specs.declared.turn.Turn.TheVariants.{GoesOn, Found, Enough}
use Rattle.mends.specs.declared.outcome.Open.{Open}
use Rattle.explore.specs.declared.fault.ExploreFault.{ExploreFault}
use Rattle.mends.specs.Mends.{AreOpened, AreSettledBefore, HoldsWith, IsChoice, IsFirst, IsLeftOpen, IsNotKnown, IsSettled, IsUntoldWith, chosen, mended, most_open}

-- ---- a task

-- The candidates are those of its object, and the costs theirs.
pub record IsTask (task : Task) : Type 0 where
  pub candidates : task.candidates.now ≡ candidates_of task.object.now
  pub costs : task.costs.now ≡ costs_of (candidates_of task.object.now)

-- ---- one choice

-- With it some run breaks what is asked.
pub record IsBound (question : Question) (object : Object) (choice : List Bool) : Type 0 where
  pub is_choice : IsChoice object choice
  pub changed : Object
  pub is : mended object choice ≡ Some changed
  pub broken : IsBrokenBy question changed

-- What comes of one choice.
abbrev pub IsTried : Question → ℕ → Object → List Bool → Tried → Type 0
IsTried question limit object choice NoProgram = mended object choice ≡ None
IsTried question limit object choice (Broken failure) = IsBound question object choice
IsTried question limit object choice (Holds set found) = (set.items ≡ chosen object choice) × HoldsWith question limit object choice found
IsTried question limit object choice (Untold set fault) = (set.items ≡ chosen object choice) × IsUntoldWith question limit object choice fault

-- A bound puts in all that a choice does. Each choice that puts in all that this one does, and no more than the bound, is settled.
pub record Settles (question : Question) (object : Object) (search : Search) (choice bound : List Bool) : Type 0 where
  pub is_choice : IsChoice object bound
  pub within : is_within choice bound ≡ true
  pub settled : (other : List Bool) → IsChoice object other → is_within choice other ≡ true → is_within other bound ≡ true
      → IsSettled question object search.untold.items other

-- ---- among what is known

-- of the choices that are open, each is one among so many candidates
abbrev pub AreOpenChoices : ℕ → List Open → Type 0
AreOpenChoices count untold = All (λ one. length one.choice.items ≡ count) untold

-- A choice is within the bound at a place.
abbrev pub IsBoundAmong : List (Vec Bool) → List Bool → Option ℕ → Type 0
IsBoundAmong ruled choice (Some place) = (place < length ruled) × ((bound : Vec Bool) → slice_get ruled place ≡ Some bound → is_within choice bound.items ≡ true)
IsBoundAmong ruled choice None = Unit {0}

-- A choice is within the open one at a place; or it is within none.
abbrev pub IsOpenAmong : List Open → List Bool → Option ℕ → Type 0
IsOpenAmong untold choice (Some place) = (place < length untold) × ((one : Open) → slice_get untold place ≡ Some one → is_within choice one.choice.items ≡ true)
IsOpenAmong untold choice None = IsLeftOpen untold choice → ⊥

-- What settles a choice; or it is not left open.
abbrev pub IsKnownBound : Question → Object → Search → List Bool → Option (Vec Bool) → Type 0
IsKnownBound question object search choice (Some bound) = Settles question object search choice bound.items
IsKnownBound question object search choice None = IsLeftOpen search.untold.items choice → ⊥

-- A set is not told, for this reason.
abbrev pub IsUntoldSet : Question → ℕ → Object → List Bool → Vec Repair × ExploreFault → Type 0
IsUntoldSet question limit object choice (set, fault) = (set.items ≡ chosen object choice) × IsUntoldWith question limit object choice fault

-- ---- a search

-- What is known: with each bound what is asked is broken; and some are open, but not enough.
pub record IsKnown (question : Question) (limit : ℕ) (object : Object) (search : Search) : Type 0 where
  pub choices : AreChoices (length (candidates_of object)) search.queue.items
  pub ruled : All (λ bound. IsBound question object bound.items) search.ruled.items
  pub opened : AreOpened question limit object search.untold.items
  pub few : length search.untold.items < most_open

-- Each choice is settled, or one that waits puts in no more.
pub record IsSearch (question : Question) (limit : ℕ) (object : Object) (search : Search) : Type 0 where
  pub known : IsKnown question limit object search
  pub covered : (other : List Bool) → IsChoice object other → IsSettled question object search.untold.items other ⊎ HasWithin search.queue.items other

-- The same but for what puts in all that one choice does, before which all are settled.
pub record IsTurn (question : Question) (limit : ℕ) (object : Object) (search : Search) (choice : List Bool) : Type 0 where
  pub known : IsKnown question limit object search
  pub is_choice : IsChoice object choice
  pub covered : (other : List Bool) → IsChoice object other
      → IsSettled question object search.untold.items other ⊎ ((is_within choice other ≡ true) ⊎ HasWithin search.queue.items other)
  pub first : AreSettledBefore question object search.untold.items choice

-- The search has come further: less is left to try than with the choice.
pub record GoesFurther (question : Question) (limit : ℕ) (object : Object) (old new : Search) (choice : List Bool) : Type 0 where
  pub search : IsSearch question limit object new
  pub weight : weight new.queue.items < weight old.queue.items + weight_of choice

-- What a choice comes to: it is settled, and the search has not ended.
abbrev pub IsAnswerTo : Question → ℕ → Object → Search → Search → List Bool → Answer → Type 0
IsAnswerTo question limit object old new choice (answers.Bound bound) =
    IsTurn question limit object new choice × Settles question object new choice bound.items × (new.queue ≡ old.queue)
IsAnswerTo question limit object old new choice (answers.Found set found) = IsFirst question limit object set.items found new.untold.items
IsAnswerTo question limit object old new choice answers.Enough = IsNotKnown question limit object new.untold.items

-- What a turn comes to.
abbrev pub IsTurned : Question → ℕ → Object → Search → Search → List Bool → Turn → Type 0
IsTurned question limit object old new choice GoesOn = GoesFurther question limit object old new choice
IsTurned question limit object old new choice (Found set found) = IsFirst question limit object set.items found new.untold.items
IsTurned question limit object old new choice Enough = IsNotKnown question limit object new.untold.items
