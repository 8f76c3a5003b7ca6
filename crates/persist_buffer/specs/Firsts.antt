-- Parts of a list by a test of its elements. No rule of the model, and in no public clause.
use Rattle.std.specs.Prelude.{ℕ, zero, suc, Bool, cond, List, [], ◌∷◌, take}
use Rattle.std.specs.List.{position_or_len}

-- without the first that passes
abbrev pub drop_first : {X : Type 0} → (X → Bool) → List X → List X
drop_first p [] = []
drop_first p (x ∷ xs) = cond (p x) xs (x ∷ drop_first p xs)

-- what is before the first that passes
abbrev pub before_first : {X : Type 0} → (X → Bool) → List X → List X
before_first p xs = take (position_or_len p xs) xs

-- what is before number k, from 0, of those that pass; all where only k pass
abbrev pub before_nth : {X : Type 0} → ℕ → (X → Bool) → List X → List X
before_nth k p [] = []
before_nth zero p (x ∷ xs) = cond (p x) [] (x ∷ before_nth zero p xs)
before_nth (suc k) p (x ∷ xs) = x ∷ before_nth (cond (p x) k (suc k)) p xs
