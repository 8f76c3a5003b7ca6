-- Cuts: how many markers went, and how many writes of each line are persisted.
use Rattle.std.specs.Prelude.{ℕ, zero, suc, ◌≡◌, ◌≤◌, ◌<◌, List, [], ◌∷◌, take, slice_set, Some}
use Rattle.persist_buffer.specs.declared.entry.PendingEntry.{PendingEntry}
use Rattle.persist_buffer.specs.declared.entry.PendingEntry.TheVariants.{Write, Marker}
use Rattle.persist_buffer.specs.State.{Memory}
use Rattle.persist_buffer.specs.Listings.{writes_on}
use Rattle.pending_images.specs.Candidates.{markers, marker_at, before}

-- the persisted values after an entry left the pending list
abbrev pub after : PendingEntry → List ℕ → List ℕ
after (Write word value) persisted = slice_set persisted word value
after (Marker line) persisted = persisted

-- the persisted values after entries left it, one after another
abbrev pub written : List PendingEntry → List ℕ → List ℕ
written [] persisted = persisted
written (entry ∷ later) persisted = written later (after entry persisted)

-- of each line below a number the first writes are persisted, as many as count says
abbrev pub image_of : ℕ → (ℕ → ℕ) → List PendingEntry → List ℕ → List ℕ
image_of zero count pending persisted = persisted
image_of (suc line) count pending persisted = written (take (count line) (writes_on line pending)) (image_of line count pending persisted)

-- The first k markers may have gone, and no other, while as many writes of each line are persisted as count says.
pub record IsCut (k : ℕ) (count : ℕ → ℕ) (pending : List PendingEntry) : Type 0 where
  pub few : k ≤ markers pending
  pub inside : (line : ℕ) → count line ≤ before line k pending
  pub settled : (j line : ℕ) → j < k → marker_at j pending ≡ Some (Marker line) → before line j pending ≤ count line

-- A cut leaves these persisted values, where no write is of a line from this number on.
abbrev pub IsLeftByCut : ℕ → Memory → List ℕ → Type 0
IsLeftByCut lines m persisted = (k : ℕ) × (count : ℕ → ℕ) × IsCut k count m.pending × (persisted ≡ image_of lines count m.pending m.persisted)
