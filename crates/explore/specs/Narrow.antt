-- How the least image is found that makes a condition false: for each number of markers that went, over the lines that the condition asks.
-- Of each other line the least values are taken. No rule, and in no public clause.
use Rattle.std.specs.Prelude.{◌≡◌, ◌≢◌, ◌⊎◌, ℕ, zero, suc, ◌+◌, ◌*◌, ◌<◌, ◌≤◌, Bool, true, false, Option, Some, None, List, [], ◌++◌, count_by, find, length, map, take, slice_index, slice_range, unwrap_or, if◌then◌else◌}
use Rattle.std.specs.List.{range_with_len}
use Rattle.std.specs.declared.cmp.Ordering.TheVariants.{Less, Greater}
use Rattle.std.specs.Ordering.{is_lt, nat_cmp}
use Rattle.std.specs.Cmp.Lexicographic.{slice_cmp}
use Rattle.lines_layout.specs.Lines.{line_of, line_words, max_lines, max_words}
use Rattle.outcomes.specs.Lists.{newest}
use Rattle.persist_buffer.specs.declared.entry.PendingEntry.{PendingEntry}
use Rattle.persist_buffer.specs.Listings.{writes_on}
use Rattle.persist_buffer.specs.Memories.{is_write_on, value_to}
use Rattle.persist_buffer.specs.State.{Memory, Pending}
use Rattle.machine.specs.State.{State}
use Rattle.pending_images.specs.Candidates.{all_lines, before, choices, low}
use Rattle.pending_images.specs.Cuts.{IsCut, image_of}
use Rattle.pending_images.specs.Images.{IsListing}
use Rattle.conditions.specs.Formulas.{Formula}
use Rattle.images.specs.Images.{image_at}
use Rattle.images.specs.Truth.{fails_on}
use Rattle.explore.specs.Asked.{asked_by}
use Rattle.explore.specs.Reachable.{breaks}

-- the value of a word where the first n writes of its line are persisted
abbrev pub value_after : Memory → ℕ → ℕ → ℕ
value_after m n word = unwrap_or (newest (value_to word) (take n (writes_on (line_of word) m.pending))) (slice_index m.persisted word)

-- the values of a line's words there
abbrev pub line_values : Memory → ℕ → ℕ → List ℕ
line_values m line n = map (value_after m n) (range_with_len (line_words * line) line_words)

-- Of so many first writes of a line, from a least number to a most one, this number leaves the least values.
pub record IsLeastCount (m : Memory) (line least most n : ℕ) : Type 0 where
  pub from : least ≤ n
  pub to : n ≤ most
  pub first : (i : ℕ) → least ≤ i → i ≤ most → slice_cmp nat_cmp (line_values m line n) (line_values m line i) ≢ Greater

-- So many writes of a line are made where k markers went: of a line that is asked those that must be persisted, of another one as many as leave the
-- least values.
abbrev pub IsChosen : Bool → Memory → ℕ → ℕ → ℕ → Type 0
IsChosen true m k line n = n ≡ low line k m.pending
IsChosen false m k line n = IsLeastCount m line (low line k m.pending) (before line k m.pending) n

-- the writes of a line that may be persisted where k markers went, and need not be
abbrev pub open_writes : ℕ → ℕ → List PendingEntry → List PendingEntry
open_writes line k pending = slice_range (writes_on line pending) (low line k pending) (before line k pending)

-- those of the lines below a number that are asked
abbrev pub opens : (ℕ → Bool) → ℕ → ℕ → List PendingEntry → List PendingEntry
opens asked zero k pending = []
opens asked (suc line) k pending = opens asked line k pending ++ (if asked line then open_writes line k pending else [])

-- writes of a line are added, from one place among them to another; or the open writes of the lines that a condition asks
abbrev pub AddsWrites : Pending → ℕ → ℕ → ℕ → Pending → Pending → Type 0
AddsWrites pending line from to old new = new.memory.pending ≡ old.memory.pending ++ slice_range (writes_on line pending.memory.pending) from to

abbrev pub AddsOpens : Formula → Pending → ℕ → Pending → Pending → Type 0
AddsOpens condition pending k old new = new.memory.pending ≡ old.memory.pending ++ opens (asked_by condition) all_lines k pending.memory.pending

-- no more writes of each line than are pending
abbrev pub AreWithin : List ℕ → Memory → Type 0
AreWithin counts m = (line : ℕ) → line < max_lines → slice_index counts line ≤ count_by (is_write_on line) m.pending

-- How many writes of each line are made where k markers went.
pub record AreChosen (asked : ℕ → Bool) (m : Memory) (k : ℕ) (counts : List ℕ) : Type 0 where
  pub size : length counts ≡ max_lines
  pub each : (line : ℕ) → line < max_lines → IsChosen (asked line) m k line (slice_index counts line)

-- The persisted values with those writes made.
pub record AreMade (m : Memory) (counts values : List ℕ) : Type 0 where
  pub size : length values ≡ max_words
  pub each : (word : ℕ) → word < max_words → slice_index values word ≡ value_after m (slice_index counts (line_of word)) word

-- A memory of those values, in which just the open writes of the lines are pending that are asked.
pub record IsNarrow (asked : ℕ → Bool) (m : Memory) (k : ℕ) (narrow : Memory) : Type 0 where
  pub counts : List ℕ
  pub chosen : AreChosen asked m k counts
  pub made : AreMade m counts narrow.persisted
  pub pending : narrow.pending ≡ opens asked all_lines k m.pending

-- the same of pending lists, where these are the lines that a condition asks
abbrev pub IsNarrowed : Formula → Pending → ℕ → Pending → Type 0
IsNarrowed condition pending k narrow = IsNarrow (asked_by condition) pending.memory k narrow.memory

-- Where the first k markers went and no other, a crash may leave this image.
abbrev pub IsLeftAt : State → ℕ → List ℕ → Type 0
IsLeftAt s k image = (count : ℕ → ℕ) × IsCut k count s.memory.pending × (image ≡ image_at s.shape (image_of all_lines count s.memory.pending s.memory.persisted))

-- The same where fewer than n markers went.
abbrev pub IsLeftBelow : State → ℕ → List ℕ → Type 0
IsLeftBelow s n image = (k : ℕ) × (k < n) × IsLeftAt s k image

-- none of these images passes, or this one and none below it
abbrev pub IsLeast : (List ℕ → Type 0) → (List ℕ → Bool) → Option (List ℕ) → Type 0
IsLeast Among test None = (image : List ℕ) → Among image → test image ≡ false
IsLeast Among test (Some least) = Among least × (test least ≡ true)
    × ((image : List ℕ) → Among image → test image ≡ true → (least ≡ image) ⊎ (slice_cmp nat_cmp least image ≡ Less))

-- the least image that makes a condition false where the first k markers went and no other, if there is one
abbrev pub BreaksAt : Formula → State → ℕ → Option (List ℕ) → Type 0
BreaksAt condition s k found = IsLeast (IsLeftAt s k) (breaks condition s) found

-- the first of all images of a pending list that makes a condition false, if there is one
abbrev pub IsFirstFailing : Formula → State → Pending → Option (List ℕ) → Type 0
IsFirstFailing condition s pending found =
    (images : List (List ℕ)) × IsListing pending.shape pending.memory images × (found ≡ find (fails_on s condition) images)

-- the lesser of two images, where both are there
abbrev pub lesser : Option (List ℕ) → Option (List ℕ) → Option (List ℕ)
lesser None other = other
lesser (Some one) None = Some one
lesser (Some one) (Some other) = if is_lt (slice_cmp nat_cmp other one) then Some other else Some one

-- the product of the choices of the lines below a number that are asked
abbrev pub product_on : (ℕ → Bool) → ℕ → ℕ → List PendingEntry → ℕ
product_on asked zero k pending = 1
product_on asked (suc line) k pending = if asked line then product_on asked line k pending * choices line k pending else product_on asked line k pending

-- that product over all lines that a condition asks
abbrev pub asked_product : Formula → ℕ → State → ℕ
asked_product condition k s = product_on (asked_by condition) all_lines k s.memory.pending

-- the sum of the products where fewer than n markers went
abbrev pub products_on : (ℕ → Bool) → ℕ → ℕ → List PendingEntry → ℕ
products_on asked lines zero pending = 0
products_on asked lines (suc k) pending = products_on asked lines k pending + product_on asked lines k pending
