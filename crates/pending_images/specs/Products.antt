-- How images are formed, with repeats: for each number of markers that went, the product over the lines.
use Rattle.std.specs.Prelude.{◌≡◌, ℕ, zero, suc, Option, Some, List, [], ◌∷◌, ◌++◌, drop, map, take, slice_get, slice_range, slice_set, length}
use Rattle.persist_buffer.specs.declared.entry.PendingEntry.{PendingEntry}
use Rattle.persist_buffer.specs.declared.entry.PendingEntry.TheVariants.{Write, Marker}
use Rattle.persist_buffer.specs.Listings.{writes_on}
use Rattle.pending_images.specs.Candidates.{all_lines, before, low, marker_at}
use Rattle.pending_images.specs.Gone.{Gone}
use Rattle.pending_images.specs.Images.{place_of}

-- the writes among entries, each with the place of its word in an image
abbrev pub placed : List ℕ → List PendingEntry → List (ℕ × ℕ)
placed shape [] = []
placed shape (Write word value ∷ later) = (place_of shape word, value) ∷ placed shape later
placed shape (Marker line ∷ later) = placed shape later

-- the writes of a line, oldest first, each with the place of its word
abbrev pub placed_on : List ℕ → ℕ → List PendingEntry → List (ℕ × ℕ)
placed_on shape line pending = placed shape (writes_on line pending)

-- the writes of a line that may be persisted where k markers went, and need not be
abbrev pub open_at : List ℕ → ℕ → ℕ → List PendingEntry → List (ℕ × ℕ)
open_at shape line k pending = slice_range (placed_on shape line pending) (low line k pending) (before line k pending)

-- an image after writes
abbrev pub made : List (ℕ × ℕ) → List ℕ → List ℕ
made [] image = image
made (write ∷ later) image = made later (slice_set image write.0 write.1)

-- images after the first i of some writes
abbrev pub block : List (ℕ × ℕ) → ℕ → List (List ℕ) → List (List ℕ)
block writes i images = map (λ image. made (take i writes) image) images

-- images after none of some writes, after the first, after the first two, up to the first n
abbrev pub blocks : List (ℕ × ℕ) → ℕ → List (List ℕ) → List (List ℕ)
blocks writes zero images = images
blocks writes (suc n) images = blocks writes n images ++ block writes (suc n) images

-- what an image becomes by the open writes of the lines below a number, where k markers went
abbrev pub images_at : List ℕ → ℕ → ℕ → List PendingEntry → List ℕ → List (List ℕ)
images_at shape zero k pending image = image ∷ []
images_at shape (suc line) k pending image = blocks (open_at shape line k pending) (length (open_at shape line k pending)) (images_at shape line k pending image)

-- the writes that a marker waits for where k markers went: the open ones of its line; none where there is no marker
abbrev pub awaited_at : List ℕ → ℕ → List PendingEntry → Option PendingEntry → List (ℕ × ℕ)
awaited_at shape k pending (Some (Marker line)) = open_at shape line k pending
awaited_at shape k pending _ = []

-- the image in which just those writes are made that the first k markers waited for
abbrev pub settled_image : List ℕ → ℕ → List PendingEntry → List ℕ → List ℕ
settled_image shape zero pending image = image
settled_image shape (suc k) pending image = made (awaited_at shape k pending (marker_at k pending)) (settled_image shape k pending image)

-- the images where fewer than n markers went
abbrev pub images_below : List ℕ → ℕ → List PendingEntry → List ℕ → List (List ℕ)
images_below shape zero pending image = []
images_below shape (suc k) pending image = images_below shape k pending image ++ images_at shape all_lines k pending (settled_image shape k pending image)

-- write i of a line, from 0: the place of its word in an image, and its value
abbrev pub IsPlacedWrite : ℕ → ℕ → ℕ × ℕ → Gone → Type 0
IsPlacedWrite line i placed g = slice_get (placed_on g.pending.shape line g.pending.memory.pending) i ≡ Some placed

-- the writes of a line that may be persisted once these markers went, and need not be
abbrev pub open_in : ℕ → Gone → List (ℕ × ℕ)
open_in line g = open_at g.pending.shape line g.markers g.pending.memory.pending

-- images, and behind them those from a place on, each with one more write
abbrev pub with_block : ℕ → ℕ → ℕ → List (List ℕ) → List (List ℕ)
with_block from place value images = images ++ map (λ image. slice_set image place value) (drop from images)

-- The images from a place on became what they become by the open writes of a line.
abbrev pub IsSpread : Gone → ℕ → ℕ → List (List ℕ) → List (List ℕ) → Type 0
IsSpread g line start old new = new ≡ take start old ++ blocks (open_in line g) (length (open_in line g)) (drop start old)

-- what an image becomes by the open writes of all lines
abbrev pub formed_by : Gone → List ℕ → List (List ℕ)
formed_by g image = images_at g.pending.shape all_lines g.markers g.pending.memory.pending image
