-- Images: the persisted values that a crash may leave, read at the words of a shape.
use Rattle.std.specs.Prelude.{◌≡◌, ◌↔◌, ℕ, ◌+◌, ◌%◌, List, [], ◌∷◌, Contains, map, slice_index, slice_get, Option, if◌then◌else◌, ◌==◌, ◌&&◌, nat_lt}
use Rattle.std.specs.List.Sorted.{IsStrictlySortedBy}
use Rattle.std.specs.Ordering.{nat_cmp}
use Rattle.std.specs.Cmp.Lexicographic.{slice_cmp}
use Rattle.lines_layout.specs.Lines.{line_words, line_of}
use Rattle.lines_layout.specs.Shapes.{words_of}
use Rattle.persist_buffer.specs.State.{Memory, Pending}
use Rattle.pending_images.specs.Changes.{IsReached}

-- the values of the words of a shape, in order of number
abbrev pub image_at : List ℕ → List ℕ → List ℕ
image_at shape persisted = map (slice_index persisted) (words_of shape)

-- the image that is persisted now
abbrev pub image_now : Pending → List ℕ
image_now p = image_at p.shape p.memory.persisted

-- Further changes, perhaps none, may leave this image.
abbrev pub IsImage : List ℕ → Memory → List ℕ → Type 0
IsImage shape m image = (persisted : List ℕ) × IsReached m persisted × (image ≡ image_at shape persisted)

-- a list has all images and nothing else
abbrev pub AreImages : List ℕ → Memory → List (List ℕ) → Type 0
AreImages shape m images = (image : List ℕ) → Contains images image ↔ IsImage shape m image

-- the same of what has left the store buffers
abbrev pub AreImagesIn : Pending → List (List ℕ) → Type 0
AreImagesIn p images = AreImages p.shape p.memory images

-- all images, ascending by the first word in which two differ, each once
pub record IsListing (shape : List ℕ) (m : Memory) (images : List (List ℕ)) : Type 0 where
  pub exact : AreImages shape m images
  pub ascending : IsStrictlySortedBy (slice_cmp nat_cmp) images

-- the same of what has left the store buffers
abbrev pub IsListingIn : Pending → List (List ℕ) → Type 0
IsListingIn p images = IsListing p.shape p.memory images

-- the place of a word among the words of lines of which the first has the number g; past the last place where they lack it
abbrev pub place_from : ℕ → List ℕ → ℕ → ℕ
place_from g [] word = 0
place_from g (count ∷ shape) word =
    if line_of word == g && nat_lt (word % line_words) count then word % line_words else count + place_from (g + 1) shape word

-- the place of a word in an image; past its end where the shape lacks the word
abbrev pub place_of : List ℕ → ℕ → ℕ
place_of shape word = place_from 0 shape word

-- the value of a word in an image
abbrev pub value_of : List ℕ → List ℕ → ℕ → Option ℕ
value_of shape image word = slice_get image (place_of shape word)
