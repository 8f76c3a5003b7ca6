-- That a write is missing in an image, said of a state and of the closed sets of its pending list.
use Rattle.std.specs.Prelude.{◌≡◌, ◌≢◌, ◌⊎◌, ℕ, ◌<◌, Bool, Some, List, Contains, slice_get}
use Rattle.lines_layout.specs.Lines.{line_of}
use Rattle.store_buffer.specs.declared.entry.Entry.{Entry}
use Rattle.store_buffer.specs.declared.entry.Entry.TheVariants as entries
use Rattle.persist_buffer.specs.declared.entry.PendingEntry.{PendingEntry}
use Rattle.persist_buffer.specs.declared.entry.PendingEntry.TheVariants.{Write, Marker}
use Rattle.pending_images.specs.ClosedSets.{HoldsPlace}
use Rattle.pending_images.specs.Images.{value_of}
use Rattle.pending_images.specs.LeastSets.{IsLeast}
use Rattle.machine.specs.State.{State, buffer_at}
use Rattle.image_reasons.specs.declared.entries.Site.{Site}
use Rattle.image_reasons.specs.declared.missing.Missing.{Missing}
use Rattle.image_reasons.specs.declared.missing.Why.{Why}
use Rattle.image_reasons.specs.declared.missing.Why.TheVariants.{InStoreBuffer, StoredAfter, FlushPending}

-- This entry is pending at a place, and the least closed set that leaves the image does not hold it.
pub record IsLeftOut (s : State) (image : List ℕ) (place : ℕ) (entry : PendingEntry) : Type 0 where
  pub there : slice_get s.memory.pending place ≡ Some entry
  pub out : (flags : List Bool) → IsLeast s.shape s.memory image flags → HoldsPlace flags place → ⊥

-- Behind a place is a marker of the line that is left out too.
abbrev pub IsMarkerLeftOut : State → List ℕ → ℕ → ℕ → Type 0
IsMarkerLeftOut s image place line = (later : ℕ) × (place < later) × IsLeftOut s image later (Marker line)

-- A pending write is left out; and where its reason is a flush that is pending behind it, so is the marker of a flush of its line.
pub record IsPendingLost (s : State) (image : List ℕ) (w : Missing) (place : ℕ) : Type 0 where
  pub write : IsLeftOut s image place (Write w.word w.value)
  pub marker : (flush : Site) → w.why ≡ FlushPending flush → IsMarkerLeftOut s image place (line_of w.word)

-- A reason says of a write that it is in its store buffer.
abbrev pub IsOfBuffer : Why → Type 0
IsOfBuffer InStoreBuffer = Unit {0}
IsOfBuffer (StoredAfter store) = Unit {0}
IsOfBuffer _ = ⊥

-- A write is in a store buffer, which a crash empties, and that is its reason.
pub record IsBufferedLost (s : State) (w : Missing) (p : ℕ) (buffer : List Entry) : Type 0 where
  pub buffered : buffer_at s p ≡ Some buffer
  pub write : Contains buffer (entries.Write w.word w.value)
  pub why : IsOfBuffer w.why

-- The image has another value of the word of a write, and the write is pending and left out, or still in a store buffer.
pub record IsLost (s : State) (image : List ℕ) (w : Missing) : Type 0 where
  pub other : value_of s.shape image w.word ≢ Some w.value
  pub lost : ((place : ℕ) × IsPendingLost s image w place) ⊎ ((p : ℕ) × (buffer : List Entry) × IsBufferedLost s w p buffer)

abbrev pub AreLost : State → List ℕ → List Missing → Type 0
AreLost s image missing = (w : Missing) → Contains missing w → IsLost s image w

-- Some of these missing writes writes this value to this word.
abbrev pub IsAmong : List Missing → ℕ → ℕ → Type 0
IsAmong missing word value = (w : Missing) × Contains missing w × (w.word ≡ word) × (w.value ≡ value)

-- Each write of which the image has another value is told, if it is pending and left out, or if it is still in a store buffer.
pub record AreAllTold (s : State) (image : List ℕ) (missing : List Missing) : Type 0 where
  pub pending : (place word value : ℕ) → IsLeftOut s image place (Write word value) → value_of s.shape image word ≢ Some value
      → IsAmong missing word value
  pub buffered : (p : ℕ) (buffer : List Entry) (word value : ℕ) → buffer_at s p ≡ Some buffer
      → Contains buffer (entries.Write word value) → value_of s.shape image word ≢ Some value → IsAmong missing word value
