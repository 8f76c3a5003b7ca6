-- How often each outcome comes.
use Rattle.std.specs.Prelude.{◌≡◌, ◌<◌, ℕ, ◌+◌, Bool, not, List, [], ◌∷◌, ◌++◌, AllPairs, Contains, map, count_by, is_some, unwrap_or}
use Rattle.std.specs.List.{filter, position_or_len, sum_by}
use Rattle.std.specs.Map.{lookup}
use Rattle.indexmap.specs.IndexMap.{insert_entry}
use Rattle.machine.specs.State.{State}
use Rattle.schedule.specs.declared.plan.Plan.{Plan}
use Rattle.hunt.specs.Outcomes.{Observed, is_same, outcomes_from}

module _ {A : Type 0} (same : A → A → Bool) where
  -- the different items, in the order in which they come first
  abbrev pub distinct : List A → List A
  distinct [] = []
  distinct (item ∷ later) = item ∷ filter (λ other. not (same item other)) (distinct later)

  -- the different items in the order in which they come first, each with how often it comes
  abbrev pub tally_of : List A → List (A × ℕ)
  tally_of items = map (λ item. (item, count_by (same item) items)) (distinct items)

-- how many items a tally counts
abbrev pub total_of : {A : Type 0} → List (A × ℕ) → ℕ
total_of entries = sum_by (λ entry. entry.1) entries

-- how often an outcome was counted
abbrev pub count_in : List (Observed × ℕ) → Observed → ℕ
count_in entries outcome = unwrap_or (lookup (is_same outcome) entries) 0

-- an outcome is counted once more; one that is new goes last
abbrev pub counted : List (Observed × ℕ) → Observed → List (Observed × ℕ)
counted entries outcome = insert_entry is_same entries outcome (count_in entries outcome + 1)

-- the tally of n schedules, of which the first has this number
abbrev pub tally_from : Plan → State → ℕ → ℕ → List (Observed × ℕ)
tally_from plan s first n = tally_of is_same (outcomes_from plan s first n)

-- It is the tally of n schedules, of which the first has this number.
abbrev pub IsTally : Plan → State → ℕ → ℕ → List (Observed × ℕ) → Type 0
IsTally plan s first n tally = tally ≡ tally_from plan s first n

-- the first place of an outcome, past the end where it does not come
abbrev pub first_place : List Observed → Observed → ℕ
first_place outcomes outcome = position_or_len (is_same outcome) outcomes

-- whether an outcome is in a tally
abbrev pub is_in : List (Observed × ℕ) → Observed → Bool
is_in entries outcome = is_some (lookup (is_same outcome) entries)

-- the tally of outcomes
abbrev pub tally : List Observed → List (Observed × ℕ)
tally outcomes = tally_of is_same outcomes

-- Each pair of a tally is of an outcome that comes, with how often it comes.
abbrev pub CountsNoOther : List Observed → Type 0
CountsNoOther outcomes =
    (outcome : Observed) (count : ℕ) → Contains (tally outcomes) (outcome, count)
    → Contains outcomes outcome × (count ≡ count_by (is_same outcome) outcomes)

-- Of each outcome that comes there is a pair, with how often it comes.
abbrev pub CountsEach : List Observed → Type 0
CountsEach outcomes =
    (outcome : Observed) → Contains outcomes outcome → Contains (tally outcomes) (outcome, count_by (is_same outcome) outcomes)

-- An outcome is before another exactly as it comes first before it.
abbrev pub IsInOrder : List Observed → Type 0
IsInOrder outcomes = AllPairs (λ (a b : Observed × ℕ). first_place outcomes a.0 < first_place outcomes b.0) (tally outcomes)

-- Two tallies, of schedules and of those that come after them, joined: the outcomes of the first, each with its count in
-- the second added, and then those that are in the second alone.
abbrev pub joined_tallies : List (Observed × ℕ) → List (Observed × ℕ) → List (Observed × ℕ)
joined_tallies entries later =
    map (λ entry. (entry.0, entry.1 + count_in later entry.0)) entries ++ filter (λ entry. not (is_in entries entry.0)) later
