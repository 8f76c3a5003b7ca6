-- What is left of a memory where other lines, or other words, are left out.
use Rattle.std.specs.Prelude.{◌≡◌, ℕ, Bool, true, List, Contains, filter, length, slice_index}
use Rattle.lines_layout.specs.Lines.{line_of}
use Rattle.persist_buffer.specs.declared.entry.PendingEntry.{PendingEntry}
use Rattle.persist_buffer.specs.declared.entry.PendingEntry.TheVariants.{Write, Marker}
use Rattle.persist_buffer.specs.State.{Memory}
use Rattle.persist_buffer.specs.Memories.{with_pending}
use Rattle.pending_images.specs.ClosedSets.{line_named}

-- the writes and the markers of the lines of a set
abbrev pub entries_on : (ℕ → Bool) → List PendingEntry → List PendingEntry
entries_on lines pending = filter (λ entry. lines (line_named entry)) pending

-- a memory in which those alone are pending
abbrev pub memory_on : (ℕ → Bool) → Memory → Memory
memory_on lines m = with_pending m (entries_on lines m.pending)

-- these values are the same at the words of a set
abbrev pub AreAlikeAt : (ℕ → Bool) → List ℕ → List ℕ → Type 0
AreAlikeAt words values others = (word : ℕ) → words word ≡ true → slice_index values word ≡ slice_index others word

-- these values are the same on the lines of a set
abbrev pub AreAlikeOn : (ℕ → Bool) → List ℕ → List ℕ → Type 0
AreAlikeOn lines values others = AreAlikeAt (λ word. lines (line_of word)) values others

-- whether an entry stays: the writes of these words do, and the markers of these lines
abbrev pub stays : (ℕ → Bool) → (ℕ → Bool) → PendingEntry → Bool
stays words lines (Write word value) = words word
stays words lines (Marker line) = lines line

-- A memory is the rest of another where just these entries of its pending list stay, in their order. With a word the markers of its
-- line stay, and its persisted value is the same. The other words may have any.
pub record IsRest (words lines : ℕ → Bool) (m rest : Memory) : Type 0 where
  pub bound : (word : ℕ) → words word ≡ true → lines (line_of word) ≡ true
  pub pending : rest.pending ≡ filter (stays words lines) m.pending
  pub persisted : AreAlikeAt words m.persisted rest.persisted
  pub size : length rest.persisted ≡ length m.persisted

-- these values, given as pairs of a word and its value, are of words of a set
abbrev pub AreOf : (ℕ → Bool) → List (ℕ × ℕ) → Type 0
AreOf words given = (word value : ℕ) → Contains given (word, value) → words word ≡ true
