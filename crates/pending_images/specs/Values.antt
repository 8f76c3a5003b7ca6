-- The values that a word has in the images in which other words have given values.
use Rattle.std.specs.Prelude.{◌≡◌, ◌↔◌, ℕ, ◌==◌, Bool, false, Option, Some, None, List, [], ◌∷◌, Contains, if◌then◌else◌}
use Rattle.std.specs.List.{list_all}
use Rattle.std.specs.List.Sorted.{IsStrictlySortedBy}
use Rattle.std.specs.Option.{option_map_or}
use Rattle.std.specs.Ordering.{nat_cmp}
use Rattle.persist_buffer.specs.State.{Memory, Pending}
use Rattle.pending_images.specs.Images.{IsImage, value_of}
use Rattle.pending_images.specs.Listings.{images_of, in_order_by}

-- an image has these values: pairs of a word and its value
abbrev pub Agrees : List ℕ → List ℕ → List (ℕ × ℕ) → Type 0
Agrees shape image given = (word value : ℕ) → Contains given (word, value) → value_of shape image word ≡ Some value

-- the values that a word has in the images that agree: ascending, each once
pub record AreValues (shape : List ℕ) (m : Memory) (given : List (ℕ × ℕ)) (word : ℕ) (values : List ℕ) : Type 0 where
  pub exact : (value : ℕ) → Contains values value ↔ ((image : List ℕ) × IsImage shape m image × Agrees shape image given × (value_of shape image word ≡ Some value))
  pub ascending : IsStrictlySortedBy nat_cmp values

-- the same of what has left the store buffers
abbrev pub AreValuesIn : Pending → List (ℕ × ℕ) → ℕ → List ℕ → Type 0
AreValuesIn p given word values = AreValues p.shape p.memory given word values

-- whether there is this value
abbrev pub is_value : ℕ → Option ℕ → Bool
is_value value found = option_map_or (λ x. x == value) found false

-- whether an image has these values
abbrev pub agrees : List ℕ → List ℕ → List (ℕ × ℕ) → Bool
agrees shape image given = list_all (λ g. is_value g.1 (value_of shape image g.0)) given

-- a value, where there is one, before others
abbrev pub with_value : Option ℕ → List ℕ → List ℕ
with_value None values = values
with_value (Some value) values = value ∷ values

-- the value of a word in each of these images that agrees
abbrev pub values_among : List ℕ → List (ℕ × ℕ) → ℕ → List (List ℕ) → List ℕ
values_among shape given word [] = []
values_among shape given word (image ∷ later) =
    if agrees shape image given then with_value (value_of shape image word) (values_among shape given word later) else values_among shape given word later

-- the values of a word in the listed images that agree, ascending and each once. Which list it is, `AreValues` says.
abbrev pub values_of : List ℕ → Memory → List (ℕ × ℕ) → ℕ → List ℕ
values_of shape m given word = in_order_by nat_cmp (values_among shape given word (images_of shape m))

-- the same of what has left the store buffers
abbrev pub values_in : Pending → List (ℕ × ℕ) → ℕ → List ℕ
values_in p given word = values_of p.shape p.memory given word
