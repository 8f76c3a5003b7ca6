-- Lists without repeats, by the order in which what they hold came. No rule, and in no public clause.
use Rattle.std.specs.Prelude.{◌≡◌, ◌⊎◌, ℕ, ◌+◌, ◌*◌, ◌<◌, Bool, true, false, List, [], ◌∷◌, ◌++◌, nat_eq, slice_get, slice_index_or, if◌then◌else◌}
use Rattle.std.specs.List.{list_any}
use Rattle.std.specs.Option.{option_map_or}
use Rattle.std.specs.Cmp.Lexicographic.{pointwise}
use Rattle.explore.specs.Ran.{flag_number, site}

-- the list at a place, if there is one
abbrev pub list_at : List (List ℕ) → ℕ → List (List ℕ)
list_at xs i = option_map_or (λ x. x ∷ []) (slice_get xs i) []

-- with one more, unless it is there
abbrev pub included : List (List ℕ) → List ℕ → List (List ℕ)
included xs x = if list_any (pointwise nat_eq x) xs then xs else xs ++ x ∷ []

-- with more, one after another
abbrev pub included_all : List (List ℕ) → List (List ℕ) → List (List ℕ)
included_all xs [] = xs
included_all xs (y ∷ ys) = included_all (included xs y) ys

-- the place of the mark of an instruction
abbrev pub mark_at : ℕ → Bool → ℕ → ℕ
mark_at p recovery place = (place * 16 + p) * 2 + flag_number recovery

-- an instruction is one that may have a mark, and has it
abbrev pub IsMarked : List Bool → ℕ → Bool → ℕ → Type 0
IsMarked marks p recovery place = (p < 16) × (slice_index_or marks (mark_at p recovery place) false ≡ true)

-- Marks are of instructions that are there.
abbrev pub AreMarks : List Bool → List (List ℕ) → Type 0
AreMarks marks lists = (p : ℕ) (recovery : Bool) (place : ℕ) → IsMarked marks p recovery place → list_any (pointwise nat_eq (site p recovery place)) lists ≡ true

-- There are no new marks but that of one instruction.
abbrev pub HasNewMarks : List Bool → List Bool → ℕ → Bool → ℕ → Type 0
HasNewMarks old new p recovery place = (q : ℕ) (recovered : Bool) (at : ℕ) → IsMarked new q recovered at
    → IsMarked old q recovered at ⊎ ((q ≡ p) × (recovered ≡ recovery) × (at ≡ place))
