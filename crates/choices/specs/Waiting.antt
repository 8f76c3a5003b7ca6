-- Choices that wait to be tried.
use Rattle.std.specs.Prelude.{◌≡◌, ◌⊎◌, ℕ, ◌+◌, ◌≤◌, ◌<◌, ◌^◌, Bool, true, false, not, Option, Some, None, List, [], length, Contains, get_or, slice_get}
use Rattle.std.specs.Global.{Vec}
use Rattle.std.specs.List.{All, count_by, sum_by}
use Rattle.choices.specs.Choices.{comes_before, is_within, with_one}

-- Each of these is a choice among so many things.
abbrev pub AreChoices : ℕ → List (Vec Bool) → Type 0
AreChoices count queue = All (λ choice. length choice.items ≡ count) queue

-- One of these takes no more than a choice.
abbrev pub HasWithin : List (Vec Bool) → List Bool → Type 0
HasWithin queue choice = (one : Vec Bool) × Contains queue one × (is_within one.items choice ≡ true)

-- None of these comes before a choice.
abbrev pub IsLeast : List ℕ → List (Vec Bool) → List Bool → Type 0
IsLeast costs queue choice = All (λ other. comes_before costs other.items choice ≡ false) queue

-- ---- how much is left to try

-- how many choices there may be, at most, that take more than a choice
abbrev pub weight_of : List Bool → ℕ
weight_of choice = (length choice + 1) ^ count_by not choice

abbrev pub weight : List (Vec Bool) → ℕ
weight queue = sum_by (λ choice. weight_of choice.items) queue

-- ---- steps

-- A choice was taken out: none comes before it, and the others stay.
pub record IsTakenOut (costs : List ℕ) (queue left : List (Vec Bool)) (choice : Vec Bool) : Type 0 where
  pub was_there : Contains queue choice
  pub least : IsLeast costs queue choice.items
  pub kept : (other : Vec Bool) → Contains queue other → (other ≡ choice) ⊎ Contains left other
  pub from : (other : Vec Bool) → Contains left other → Contains queue other
  pub weight : weight left + weight_of choice.items ≡ weight queue

-- The least was taken out, if there was one.
abbrev pub IsTaken : List ℕ → List (Vec Bool) → List (Vec Bool) → Option (Vec Bool) → Type 0
IsTaken costs queue left (Some choice) = IsTakenOut costs queue left choice
IsTaken costs queue left None = (queue ≡ []) × (left ≡ [])

-- All that takes more than a choice, and is not within a bound, has one of these within it; and less is left to try than with the choice.
pub record IsSpread (queue spread : List (Vec Bool)) (choice bound : List Bool) : Type 0 where
  pub kept : (other : Vec Bool) → Contains queue other → Contains spread other
  pub above : (place : ℕ) → slice_get bound place ≡ Some false → HasWithin spread (with_one place choice)
  pub weight : weight spread < weight queue + weight_of choice

-- The choice at a place is the least of these.
abbrev pub IsLeastPlace : List ℕ → List (Vec Bool) → ℕ → Type 0
IsLeastPlace costs queue place = (place < length queue) × ((other : Vec Bool) → IsLeast costs queue (get_or queue place other).items)

-- A choice was put in, unless one of these takes no more.
pub record IsPut (queue more : List (Vec Bool)) (choice : Vec Bool) : Type 0 where
  pub kept : (other : Vec Bool) → Contains queue other → Contains more other
  pub has : HasWithin more choice.items
  pub choices : AreChoices (length choice.items) more
  pub weight : weight more ≤ weight queue + weight_of choice.items
