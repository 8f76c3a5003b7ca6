-- What leaves the pending list next: the entry, and not its place. No rule of the model, and in no public clause.
use Rattle.std.specs.Prelude.{◌≡◌, ℕ, false, Option, Some, None, List, find, MatchOption}
use Rattle.std.specs.List.{list_any}
use Rattle.persist_buffer.specs.declared.entry.PendingEntry.{PendingEntry}
use Rattle.persist_buffer.specs.declared.entry.PendingEntry.TheVariants.{Write, Marker}
use Rattle.persist_buffer.specs.Memories.{is_write_on, is_marker}
use Rattle.persist_buffer.specs.Firsts.{before_first}

-- the oldest write of a line, with no marker before it
pub record IsNextWrite (line word value : ℕ) (pending : List PendingEntry) : Type 0 where
  pub oldest : find (is_write_on line) pending ≡ Some (Write word value)
  pub free : list_any is_marker (before_first (is_write_on line) pending) ≡ false

-- the oldest marker, with no write of its line before it
pub record IsNextMarker (line : ℕ) (pending : List PendingEntry) : Type 0 where
  pub oldest : find is_marker pending ≡ Some (Marker line)
  pub free : list_any (is_write_on line) (before_first is_marker pending) ≡ false

-- the first write of a line is found, or none is there
abbrev pub FindsWrite : ℕ → List PendingEntry → Option (ℕ × ℕ) → Type 0
FindsWrite line pending found = MatchOption found (find (is_write_on line) pending ≡ None) (λ w. find (is_write_on line) pending ≡ Some (Write w.0 w.1))

-- the first marker is found, or none is there
abbrev pub FindsMarker : List PendingEntry → Option ℕ → Type 0
FindsMarker pending found = MatchOption found (find is_marker pending ≡ None) (λ line. find is_marker pending ≡ Some (Marker line))
