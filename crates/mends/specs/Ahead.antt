-- Choices that are asked before their turn.
use Rattle.std.specs.Prelude.{◌≡◌, ℕ, ◌<◌, Bool, Option, Some, None, List, length, slice_get}
use Rattle.std.specs.List.{All}
use Rattle.isa.specs.Objects.{Object}
use Rattle.explore.specs.declared.question.Question.{Question}
use Rattle.mends.specs.declared.ahead.Asked.{Asked}
use Rattle.mends.specs.Mends.{IsChoice}
use Rattle.mends.specs.Searches.{IsTried}

-- It is a choice, and this comes of it.
pub record IsAsked (question : Question) (limit : ℕ) (object : Object) (one : Asked) : Type 0 where
  pub is_choice : IsChoice object one.choice.items
  pub tried : IsTried question limit object one.choice.items one.tried

-- Each is so.
abbrev pub AreAsked : Question → ℕ → Object → List Asked → Type 0
AreAsked question limit object asked = All (IsAsked question limit object) asked

-- One is so, where memory was enough for it.
abbrev pub IsAskedIfAny : Question → ℕ → Object → Option Asked → Type 0
IsAskedIfAny question limit object (Some one) = IsAsked question limit object one
IsAskedIfAny question limit object None = Unit {0}

-- Each is so where memory was enough.
abbrev pub AreAnswered : Question → ℕ → Object → List (Option Asked) → Type 0
AreAnswered question limit object made = All (IsAskedIfAny question limit object) made

-- The choice stands at the place.
abbrev pub IsPlaceOf : List Asked → List Bool → Option ℕ → Type 0
IsPlaceOf asked choice (Some place) = (place < length asked) × ((one : Asked) → slice_get asked place ≡ Some one → one.choice.items ≡ choice)
IsPlaceOf asked choice None = Unit {0}
