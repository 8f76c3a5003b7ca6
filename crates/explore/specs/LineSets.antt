-- What each line may still leave, in place of the order of what is pending. Laws speak of it; no rule.
use Rattle.std.specs.Prelude.{◌≡◌, ℕ, zero, suc, ◌*◌, ◌%◌, Bool, false, true, List, [], ◌∷◌, ◌++◌, ◌==◌, filter, length, map, nat_eq, not, slice_index, slice_set, if◌then◌else◌}
use Rattle.std.specs.List.{list_any, range_with_len}
use Rattle.std.specs.Cmp.Lexicographic.{pointwise}
use Rattle.lines_layout.specs.Lines.{line_of, line_words}
use Rattle.persist_buffer.specs.declared.entry.PendingEntry.{PendingEntry}
use Rattle.persist_buffer.specs.declared.entry.PendingEntry.TheVariants.{Write, Marker}
use Rattle.persist_buffer.specs.Memories.{coherent}
use Rattle.persist_buffer.specs.State.{Memory}
use Rattle.pending_images.specs.Listings.{in_order}

-- the coherent values of a line's words
abbrev pub now : Memory → ℕ → List ℕ
now m line = map (coherent m) (range_with_len (line_words * line) line_words)

-- whether an entry is a marker of a line
abbrev pub is_marker_of : ℕ → PendingEntry → Bool
is_marker_of line (Write word value) = false
is_marker_of line (Marker other) = other == line

-- A line may hold these values: once they were its coherent values, and no marker of the line has come since.
pub record MayHold (m : Memory) (line : ℕ) (values : List ℕ) : Type 0 where
  pub before : List PendingEntry
  pub since : List PendingEntry
  pub whole : m.pending ≡ before ++ since
  pub unmarked : list_any (is_marker_of line) since ≡ false
  pub shown : values ≡ now (record { pending = before; persisted = m.persisted }) line

-- One memory has all of another: all words have the same coherent values, and what a line of the other may hold, that line of the one may.
pub record Within (one other : Memory) : Type 0 where
  pub same : (word : ℕ) → coherent other word ≡ coherent one word
  pub held : (line : ℕ) (values : List ℕ) → MayHold other line values → MayHold one line values

-- the persisted values of a line's words
abbrev pub values_on : ℕ → List ℕ → List ℕ
values_on line persisted = map (slice_index persisted) (range_with_len (line_words * line) line_words)

-- Each line has values that it may hold, whatever the others have.
pub record AreHeld (m : Memory) (persisted : List ℕ) : Type 0 where
  pub words : length persisted ≡ length m.persisted
  pub each : (line : ℕ) → MayHold m line (values_on line persisted)

-- ---- as the code finds them

-- The values of a line's words, and those that they had since the line's last marker, oldest first.
pub record Held : Type 0 where
  pub values : List ℕ
  pub passed : List (List ℕ)

-- the same once an entry has come
abbrev pub held_after : ℕ → Held → PendingEntry → Held
held_after line held (Write word value) =
    if line_of word == line then record { values = slice_set held.values (word % line_words) value; passed = held.passed ++ held.values ∷ [] } else held
held_after line held (Marker other) = if other == line then record { values = held.values; passed = [] } else held

-- once entries have come, one after another
abbrev pub held_from : ℕ → Held → List PendingEntry → Held
held_from line held [] = held
held_from line held (entry ∷ later) = held_from line (held_after line held entry) later

-- those of a line of so many words
abbrev pub held_by : Memory → ℕ → ℕ → Held
held_by m line count = held_from line (record { values = map (slice_index m.persisted) (range_with_len (line_words * line) count); passed = [] }) m.pending

-- the values that a line had and has no more: ascending, each once
abbrev pub others : Held → List (List ℕ)
others held = filter (λ values. not (pointwise nat_eq values held.values)) (in_order held.passed)

-- ---- by the line's own writes

-- the same once a write of the line has come, at a place among its words: the values before it are noted, unless it is settled, which means that a marker of the line is behind it
abbrev pub held_with : Bool → ℕ → ℕ → Held → Held
held_with settled place value held =
    record { values = slice_set held.values place value; passed = if settled then held.passed else held.passed ++ held.values ∷ [] }

-- once writes of the line have come, one after another, of which so many first ones are settled
abbrev pub held_through : ℕ → Held → List PendingEntry → Held
held_through settled held [] = held
held_through zero held (Write word value ∷ later) = held_through zero (held_with false (word % line_words) value held) later
held_through (suc settled) held (Write word value ∷ later) = held_through settled (held_with true (word % line_words) value held) later
held_through settled held (Marker other ∷ later) = held_through settled held later
