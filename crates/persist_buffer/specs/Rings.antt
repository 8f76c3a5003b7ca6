-- Rings of pending entries with serials, and the one list that they stand for. No rule of the model, and in no public clause.
use Rattle.std.specs.Prelude.{ℕ, ◌≡◌, ◌+◌, ◌<◌, ◌≤◌, ◌==◌, Bool, cond, List, [], ◌∷◌, ◌++◌, length, filter, map, nat_lt, flat_map, slice_index_or}
use Rattle.std.specs.List.{AllByRecursion, fold}
use Rattle.circular_buffer.specs.Buffer.{Buffer, buffer}
use Rattle.lines_layout.specs.Lines.{line_of, max_lines}
use Rattle.persist_buffer.specs.declared.entry.PendingEntry.{PendingEntry}
use Rattle.persist_buffer.specs.declared.entry.PendingEntry.TheVariants.{Write, Marker}
use Rattle.persist_buffer.specs.declared.ring.StampedEntry.{StampedEntry}
use Rattle.persist_buffer.specs.Limits.{serial_limit}

-- how many rings there are: one for the markers, and one for each line
abbrev pub ring_count : ℕ
ring_count = max_lines + 1

-- how many entries a ring has room for
abbrev pub ring_room : ℕ
ring_room = 256

-- the ring that an entry goes into: the first is that of the markers, and after it comes one for each line
abbrev pub ring_of : PendingEntry → ℕ
ring_of (Write word value) = line_of word + 1
ring_of (Marker line) = 0

-- whether an entry goes into a ring
abbrev pub goes_in : ℕ → PendingEntry → Bool
goes_in r entry = ring_of entry == r

-- whether an entry with its serial does
abbrev pub is_in : ℕ → StampedEntry → Bool
is_in r s = goes_in r s.entry

-- entries without their serials
abbrev pub entries : List StampedEntry → List PendingEntry
entries xs = map (λ s. s.entry) xs

-- What rings stand for.
pub record StampedList : Type 0 where
  -- the entries of all rings, in the order of their serials
  pub stamped : List StampedEntry
  -- the serial of the next entry
  pub next : ℕ

-- one more entry at the end, under the next serial
abbrev pub with_entry : StampedList → PendingEntry → StampedList
with_entry all entry = record { stamped = all.stamped ++ record { serial = all.next; entry = entry } ∷ []; next = all.next + 1 }

-- a list with one more entry, before the first that has a greater serial
abbrev pub placed : StampedEntry → List StampedEntry → List StampedEntry
placed e [] = e ∷ []
placed e (x ∷ xs) = cond (nat_lt e.serial x.serial) (e ∷ x ∷ xs) (x ∷ placed e xs)

-- a list's entries in the order of their serials
abbrev pub by_serial : List StampedEntry → List StampedEntry
by_serial [] = []
by_serial (x ∷ xs) = placed x (by_serial xs)

-- a list with more entries, placed one after another
abbrev pub all_placed : List StampedEntry → List StampedEntry → List StampedEntry
all_placed ys xs = fold (λ zs e. placed e zs) ys xs

-- all entries of the rings, one ring after another
abbrev pub joined : List (Buffer StampedEntry) → List StampedEntry
joined rings = flat_map (λ b. b.items) rings

-- the entries of all rings in the order of their serials
unfoldable pub merged : List (Buffer StampedEntry) → List StampedEntry
merged rings = by_serial (joined rings)

-- a ring as it is made
abbrev pub empty_ring : Buffer StampedEntry
empty_ring = buffer [] ring_room

-- a ring without its entries
abbrev pub emptied : Buffer StampedEntry → Buffer StampedEntry
emptied b = buffer [] b.capacity

-- the serials rise
abbrev pub Rising : List StampedEntry → Type 0
Rising [] = Unit {0}
Rising (x ∷ xs) = AllByRecursion (λ y. x.serial < y.serial) xs × Rising xs

-- Rings stand for a list: their entries merge to it, each ring has its own part of it, and the serials rise up to the next.
pub record IsMerged (rings : List (Buffer StampedEntry)) (all : List StampedEntry) (next : ℕ) : Type 0 where
  pub merges : merged rings ≡ all
  pub count : length rings ≡ ring_count
  pub rising : Rising all
  pub below : AllByRecursion (λ s. s.serial < next) all
  pub room : (r : ℕ) (d : Buffer StampedEntry) → r < ring_count → (slice_index_or rings r d).capacity ≡ ring_room
  pub sizes : (r : ℕ) (d : Buffer StampedEntry) → r < ring_count → length (slice_index_or rings r d).items ≤ ring_room
  pub each : (r : ℕ) (d : Buffer StampedEntry) → r < ring_count → (slice_index_or rings r d).items ≡ filter (is_in r) all
  pub bound : next ≤ serial_limit

-- Each ring has the room of the other that has its number, and the other's entries fit in it.
pub record IsRefillable (rings from : List (Buffer StampedEntry)) : Type 0 where
  pub count : length rings ≡ length from
  pub room : (r : ℕ) (d : Buffer StampedEntry) → r < length from → (slice_index_or rings r d).capacity ≡ (slice_index_or from r d).capacity
  pub fits : (r : ℕ) (d : Buffer StampedEntry) → r < length from → length (slice_index_or from r d).items ≤ (slice_index_or from r d).capacity

-- The rings from one on have no entries.
pub record AreEmptyFrom (used : ℕ) (rings : List (Buffer StampedEntry)) : Type 0 where
  pub within : used ≤ length rings
  pub each : (r : ℕ) (d : Buffer StampedEntry) → used ≤ r → r < length rings → (slice_index_or rings r d).items ≡ []
