-- Constants as entries of a map.
use Rattle.std.proofs.Common.{◌≡◌, ℕ, None, List, [], ◌∷◌, ◌++◌, map, refl, ap, inl, inr}
use Rattle.std.specs.Prelude.{bytes_eq}
use Rattle.std.specs.Map.{lookup}
use Rattle.std.proofs.lemmas.Bool.{cases_Bool}
use Rattle.indexmap.specs.IndexMap.{insert_entry}

-- by the bytes of their keys
abbrev pub by_bytes : {K : Type 0} → (K → List ℕ) → List (K × ℕ) → List (List ℕ × ℕ)
by_bytes f entries = map (λ e. (f e.0, e.1)) entries

-- a look-up by bytes
pub found_by_bytes : {K : Type 0} (f : K → List ℕ) (token : List ℕ) (entries : List (K × ℕ)) → lookup (λ k. bytes_eq token (f k)) entries ≡ lookup (bytes_eq token) (by_bytes f entries)
found_by_bytes f token [] = refl
found_by_bytes f token ((k, n) ∷ entries) = elim (cases_Bool (bytes_eq token (f k))) [
  | inl same ↦ rw same refl
  | inr other ↦ rw other (found_by_bytes f token entries)
]

-- a key that is not there goes last
pub new_by_bytes : {K : Type 0} (f : K → List ℕ) (entries : List (K × ℕ)) (key : K) (n : ℕ) → lookup (bytes_eq (f key)) (by_bytes f entries) ≡ None
    → by_bytes f (insert_entry (λ a b. bytes_eq (f a) (f b)) entries key n) ≡ by_bytes f entries ++ (f key, n) ∷ []
new_by_bytes f [] key n none = refl
new_by_bytes f ((k, m) ∷ entries) key n none = elim (cases_Bool (bytes_eq (f key) (f k))) [
  | inl same ↦ let found = rw same at none in absurd cc
  | inr other ↦ rw other (ap (λ (es : List (List ℕ × ℕ)). (f k, m) ∷ es) (new_by_bytes f entries key n (rw other at none)))
]
