-- The images of a machine's state.
use Rattle.std.specs.Prelude.{ℕ, List, Option}
use Rattle.machine.specs.State.{State}
use Rattle.persist_buffer.specs.State.{Pending}
use Rattle.pending_images.specs.Images as pending
use Rattle.pending_images.specs.LeastCuts as least_cuts
use Rattle.pending_images.specs.LeastSets as least_sets
use Rattle.pending_images.specs.Listings as listings
use Rattle.pending_images.specs.Values as values
pub use Rattle.pending_images.specs.Images.{image_at, place_of, value_of}

-- what has left the store buffers of a state
abbrev pub pending_of : State → Pending
pending_of s = record { shape = s.shape; memory = s.memory }

-- Further persisting and settling alone, perhaps none, may leave this image.
abbrev pub IsImage : State → List ℕ → Type 0
IsImage s image = pending.IsImage s.shape s.memory image

-- a list has all images of a state and nothing else
abbrev pub AreImages : State → List (List ℕ) → Type 0
AreImages s images = pending.AreImages s.shape s.memory images

-- all images of a state, ascending, each once
abbrev pub IsListing : State → List (List ℕ) → Type 0
IsListing s images = pending.IsListing s.shape s.memory images

-- the images of a state as a list: ascending, each once
abbrev pub images_of : State → List (List ℕ)
images_of s = listings.images_of s.shape s.memory

-- the values that a word has in the images of a state that agree with given ones: ascending, each once
abbrev pub AreValues : State → List (ℕ × ℕ) → ℕ → List ℕ → Type 0
AreValues s given word found = values.AreValues s.shape s.memory given word found

-- these values as a function of state, given ones and word
abbrev pub values_of : State → List (ℕ × ℕ) → ℕ → List ℕ
values_of s given word = values.values_of s.shape s.memory given word

-- the places of the least closed set of pending entries that leaves this image, ascending; none where the image is none of the state's
abbrev pub IsLeastSet : State → List ℕ → Option (List ℕ) → Type 0
IsLeastSet s image found = least_sets.IsLeastSet s.shape s.memory image found

-- these places as a function of state and image
abbrev pub closed_set_of : State → List ℕ → Option (List ℕ)
closed_set_of s image = least_cuts.closed_set_of s.shape s.memory image

-- These places are of the smallest such set: of all that leave the image it has the fewest markers, and then the fewest writes line by line.
abbrev pub IsSmallestSet : State → List ℕ → Option (List ℕ) → Type 0
IsSmallestSet s image found = least_sets.IsSmallestSet s.shape s.memory image found
