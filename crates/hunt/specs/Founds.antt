-- What is found of schedules, and which of several.
use Rattle.std.specs.Prelude.{◌≡◌, ℕ, ◌+◌, ◌≤◌, nat_lt, Option, Some, None, List, if◌then◌else◌}
use Rattle.hunt.specs.declared.found.Found.{Found}
use Rattle.hunt.specs.declared.loss.Loss.{Loss}
use Rattle.hunt.specs.declared.search.Asked.{Asked}
use Rattle.hunt.specs.declared.search.Asked.TheVariants.{Last, Ends, Crashes}
use Rattle.hunt.specs.declared.search.Search.{Search}
use Rattle.hunt.specs.declared.search.Target.{Target}
use Rattle.hunt.specs.Counts.{Has}
use Rattle.hunt.specs.Searches.{crash_of}

-- the loss of the schedule of a number, where crashes are asked
abbrev pub loss_in : Asked → Search → ℕ → Option Loss
loss_in Last search number = None
loss_in (Ends recovered) search number = None
loss_in Crashes search number = crash_of search number

-- what is found of the schedule of a number that breaks the condition
abbrev pub found_at : Asked → Search → ℕ → Found
found_at asked search number = record { number = number; loss = loss_in asked search number }

-- the same of the schedule of a claim
abbrev pub found_of : Target → ℕ → Found
found_of target claim = found_at target.asked target.search (target.search.range.first + claim)

-- what was found of the smaller number, or else what there is
abbrev pub lesser : Option Found → Option Found → Option Found
lesser None other = other
lesser (Some found) None = Some found
lesser (Some found) (Some other) = if nat_lt other.number found.number then Some other else Some found

-- What was found is of the least of these claims; none where there are none.
abbrev pub IsOfLeast : Target → List ℕ → Option Found → Type 0
IsOfLeast target claims None = (y : ℕ) → Has claims y → ⊥
IsOfLeast target claims (Some found) = (x : ℕ) × Has claims x × (found ≡ found_of target x) × ((y : ℕ) → Has claims y → x ≤ y)
