-- Closed sets of pending entries: with each entry they hold all that must leave the pending list before it.
use Rattle.std.specs.Prelude.{ℕ, ◌≡◌, ◌<◌, Bool, true, false, ◌||◌, Some, List, [], ◌∷◌, slice_get}
use Rattle.lines_layout.specs.Lines.{line_of}
use Rattle.persist_buffer.specs.declared.entry.PendingEntry.{PendingEntry}
use Rattle.persist_buffer.specs.declared.entry.PendingEntry.TheVariants.{Write, Marker}
use Rattle.persist_buffer.specs.State.{Memory}
use Rattle.persist_buffer.specs.Memories.{is_write_on, is_marker}
use Rattle.pending_images.specs.Cuts.{written}

-- the line of an entry
abbrev pub line_named : PendingEntry → ℕ
line_named (Write word value) = line_of word
line_named (Marker line) = line

-- whether an entry must leave before a later one of a line: it is a marker, or a write of that line
abbrev pub leaves_first : ℕ → PendingEntry → Bool
leaves_first line entry = is_marker entry || is_write_on line entry

-- A set of places in the pending list, given by a flag for each: it holds those with a true flag, and none that has no flag.
abbrev pub HoldsPlace : List Bool → ℕ → Type 0
HoldsPlace flags place = slice_get flags place ≡ Some true

-- With each place it holds all earlier ones whose entries must leave before that place's entry.
pub record IsClosed (pending : List PendingEntry) (flags : List Bool) : Type 0 where
  pub whole : (i j : ℕ) (first next : PendingEntry) → i < j → slice_get pending i ≡ Some first → slice_get pending j ≡ Some next
      → leaves_first (line_named next) first ≡ true → HoldsPlace flags j → HoldsPlace flags i

-- the entries at the places of a set, in their order
abbrev pub flagged : List PendingEntry → List Bool → List PendingEntry
flagged [] flags = []
flagged (entry ∷ later) [] = []
flagged (entry ∷ later) (true ∷ flags) = entry ∷ flagged later flags
flagged (entry ∷ later) (false ∷ flags) = flagged later flags

-- The entries of a closed set, applied in order, leave these persisted values.
abbrev pub IsLeftByClosedSet : Memory → List ℕ → Type 0
IsLeftByClosedSet m persisted = (flags : List Bool) × IsClosed m.pending flags × (persisted ≡ written (flagged m.pending flags) m.persisted)
