-- Choices among things that cost something: of each thing, in their order, whether it is taken.
use Rattle.std.specs.Prelude.{ℕ, ◌==◌, Bool, true, false, not, ◌&&◌, ◌||◌, nat_lt, List, [], ◌∷◌, length, replicate, slice_set}
use Rattle.std.specs.List.{sum_by}

-- those that are taken
abbrev pub picked : {A : Type 0} → List Bool → List A → List A
picked (true ∷ choice) (x ∷ xs) = x ∷ picked choice xs
picked (false ∷ choice) (x ∷ xs) = picked choice xs
picked _ _ = []

-- none of so many is taken
abbrev pub nothing : ℕ → List Bool
nothing count = replicate count false

-- one more is taken
abbrev pub with_one : ℕ → List Bool → List Bool
with_one place choice = slice_set choice place true

-- whether all that one choice takes, another takes too
abbrev pub is_within : List Bool → List Bool → Bool
is_within (less ∷ choice) (more ∷ other) = (not less || more) && is_within choice other
is_within _ _ = true

-- ---- their order

-- what those cost that are taken
abbrev pub cost_of : List ℕ → List Bool → ℕ
cost_of costs choice = sum_by (λ (cost : ℕ). cost) (picked choice costs)

-- how many are taken
abbrev pub count_of : List ℕ → List Bool → ℕ
count_of costs choice = length (picked choice costs)

-- whether a choice takes the first thing of which the two differ
abbrev pub is_earlier : List Bool → List Bool → Bool
is_earlier (true ∷ choice) (true ∷ other) = is_earlier choice other
is_earlier (true ∷ choice) (false ∷ other) = true
is_earlier (false ∷ choice) (true ∷ other) = false
is_earlier (false ∷ choice) (false ∷ other) = is_earlier choice other
is_earlier _ _ = false

-- the same of choices that take so many
abbrev pub is_smaller : ℕ → ℕ → List Bool → List Bool → Bool
is_smaller count other_count choice other = nat_lt count other_count || ((count == other_count) && is_earlier choice other)

-- Whether a choice comes before another: it costs less; or as much, and takes fewer; or as many, and it is the earlier one.
abbrev pub comes_before : List ℕ → List Bool → List Bool → Bool
comes_before costs choice other =
    nat_lt (cost_of costs choice) (cost_of costs other)
    || ((cost_of costs choice == cost_of costs other) && is_smaller (count_of costs choice) (count_of costs other) choice other)
