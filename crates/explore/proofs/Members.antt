-- What is in a list with a first element.
use Rattle.std.proofs.Common.{◌≡◌, ℕ, zero, suc, inl, inr, Some, List, [], ◌∷◌, refl, ap, arith}
use Rattle.std.specs.Prelude.{◌⊎◌, Contains, map, slice_get}

pub nothing_there : {A : Type 0} (x : A) → Contains [] x → ⊥
nothing_there x (k, less, is) = absurd (omega (arith, less))

pub first_there : {A : Type 0} (x : A) (xs : List A) → Contains (x ∷ xs) x
first_there x xs = (zero, omega arith, refl)

pub later_there : {A : Type 0} (x y : A) (xs : List A) → Contains xs y → Contains (x ∷ xs) y
later_there x y xs (k, less, is) = (suc k, omega (arith, less), is)

pub first_or_later : {A : Type 0} (x y : A) (xs : List A) → Contains (x ∷ xs) y → (x ≡ y) ⊎ Contains xs y
first_or_later x y xs (zero, less, is) = inl is
first_or_later x y xs (suc k, less, is) = inr (k, omega (arith, less), is)

-- an element has a place, and what is at a place is an element
pub there_at : {A : Type 0} (xs : List A) (x : A) (k : ℕ) → slice_get xs k ≡ Some x → Contains xs x
there_at [] x k e = absurd (cc)
there_at (y ∷ xs) x zero e = let same : y ≡ x = cc in (zero, omega arith, same)
there_at (y ∷ xs) x (suc k) e = let (j, less, is) = there_at xs x k e in (suc j, omega (arith, less), is)

pub place_of : {A : Type 0} (xs : List A) (x : A) → Contains xs x → (k : ℕ) × (slice_get xs k ≡ Some x)
place_of [] x (k, less, is) = absurd (omega (arith, less))
place_of {A} (y ∷ xs) x (zero, less, is) = (zero, ap (λ (z : A). Some z) is)
place_of (y ∷ xs) x (suc k, less, is) = let (j, at) = place_of xs x (k, omega (arith, less), is) in (suc j, at)

-- what is mapped stays at its place
pub get_mapped : {A B : Type 0} (f : A → B) (xs : List A) (k : ℕ) (x : A) → slice_get xs k ≡ Some x → slice_get (map f xs) k ≡ Some (f x)
get_mapped f [] k x e = absurd (cc)
get_mapped {A} f (y ∷ xs) zero x e = let same : y ≡ x = cc in ap (λ (z : A). Some (f z)) same
get_mapped f (y ∷ xs) (suc k) x e = get_mapped f xs k x e

-- and what is at a place was mapped
pub get_of : {A B : Type 0} (f : A → B) (xs : List A) (k : ℕ) (y : B) → slice_get (map f xs) k ≡ Some y → (x : A) × (slice_get xs k ≡ Some x) × (f x ≡ y)
get_of f [] k y e = absurd (cc)
get_of f (x ∷ xs) zero y e = let same : f x ≡ y = cc in (x, refl, same)
get_of f (x ∷ xs) (suc k) y e = get_of f xs k y e
