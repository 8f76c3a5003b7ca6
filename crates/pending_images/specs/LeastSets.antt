-- The least closed set that leaves an image.
use Rattle.std.specs.Prelude.{◌≡◌, ◌≢◌, ℕ, ◌+◌, ◌≤◌, Bool, true, false, Option, None, Some, List, [], ◌∷◌, count_by, length, map, option_map}
use Rattle.std.specs.Global.{Vec}
use Rattle.std.specs.List.{range_with_len}
use Rattle.std.specs.Ordering.{nat_cmp}
use Rattle.std.specs.Cmp.Lexicographic.{slice_cmp}
use Rattle.std.specs.declared.cmp.Ordering.TheVariants.{Greater}
use Rattle.persist_buffer.specs.declared.entry.PendingEntry.{PendingEntry}
use Rattle.persist_buffer.specs.State.{Memory, Pending}
use Rattle.persist_buffer.specs.Memories.{is_write_on}
use Rattle.pending_images.specs.Candidates.{all_lines, markers}
use Rattle.pending_images.specs.ClosedSets.{HoldsPlace, IsClosed, flagged}
use Rattle.pending_images.specs.Cuts.{written}
use Rattle.pending_images.specs.Images.{IsImage, image_at}

-- the places that a set holds, ascending, where its first flag is that of place i
abbrev pub places_from : ℕ → List Bool → List ℕ
places_from i [] = []
places_from i (true ∷ flags) = i ∷ places_from (i + 1) flags
places_from i (false ∷ flags) = places_from (i + 1) flags

-- how many markers a set holds
abbrev pub markers_in : List PendingEntry → List Bool → ℕ
markers_in pending flags = markers (flagged pending flags)

-- how many writes of a line it holds
abbrev pub writes_in : ℕ → List PendingEntry → List Bool → ℕ
writes_in line pending flags = count_by (is_write_on line) (flagged pending flags)

-- how much it holds: how many markers, and then how many writes of each line, from line 0
abbrev pub sizes_in : List PendingEntry → List Bool → List ℕ
sizes_in pending flags = markers_in pending flags ∷ map (λ line. writes_in line pending flags) (range_with_len 0 all_lines)

-- A closed set whose entries, applied in order, leave this image.
pub record IsLeaving (shape : List ℕ) (m : Memory) (image : List ℕ) (flags : List Bool) : Type 0 where
  pub closed : IsClosed m.pending flags
  pub leaves : image ≡ image_at shape (written (flagged m.pending flags) m.persisted)

-- It holds places of the pending list alone, and each such set holds all of them.
pub record IsLeast (shape : List ℕ) (m : Memory) (image : List ℕ) (flags : List Bool) : Type 0 where
  pub leaving : IsLeaving shape m image flags
  pub pending : length flags ≤ length m.pending
  pub least : (other : List Bool) (place : ℕ) → IsLeaving shape m image other → HoldsPlace flags place → HoldsPlace other place

-- The places of the least such set, ascending; none where no further changes leave the image.
abbrev pub IsLeastSet : List ℕ → Memory → List ℕ → Option (List ℕ) → Type 0
IsLeastSet shape m image None = IsImage shape m image → ⊥
IsLeastSet shape m image (Some places) = (flags : List Bool) × IsLeast shape m image flags × (places ≡ places_from 0 flags)

-- No closed set that leaves the image holds less: this one has the fewest markers, and of those with as many the fewest writes
-- of line 0, then of line 1, and so on.
pub record IsSmallest (shape : List ℕ) (m : Memory) (image : List ℕ) (flags : List Bool) : Type 0 where
  pub leaving : IsLeaving shape m image flags
  pub smallest : (other : List Bool) → IsLeaving shape m image other → slice_cmp nat_cmp (sizes_in m.pending flags) (sizes_in m.pending other) ≢ Greater

-- Places that are told are those of such a set, ascending.
abbrev pub IsSmallestSet : List ℕ → Memory → List ℕ → Option (List ℕ) → Type 0
IsSmallestSet shape m image None = Unit {0}
IsSmallestSet shape m image (Some places) = (flags : List Bool) × IsSmallest shape m image flags × (places ≡ places_from 0 flags)

-- the places that a call found, where it found any
abbrev pub places_of : Option (Vec ℕ) → Option (List ℕ)
places_of found = option_map (λ places. places.items) found

-- both of what has left the store buffers
abbrev pub IsLeastIn : Pending → List ℕ → Option (List ℕ) → Type 0
IsLeastIn p image found = IsLeastSet p.shape p.memory image found

abbrev pub IsSmallestIn : Pending → List ℕ → Option (List ℕ) → Type 0
IsSmallestIn p image found = IsSmallestSet p.shape p.memory image found
