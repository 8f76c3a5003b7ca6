-- What has left the store buffers, of whose markers the first ones went.
use Rattle.std.specs.Prelude.{ℕ, ◌≡◌, ◌+◌, ◌<◌, ◌≤◌, List, length, slice_index}
use Rattle.lines_layout.specs.Lines.{max_lines}
use Rattle.persist_buffer.specs.declared.entry.PendingEntry.{PendingEntry}
use Rattle.persist_buffer.specs.State.{Pending}
use Rattle.pending_images.specs.Candidates.{all_lines, before, low, markers, product}

-- so many of its markers went, the first ones, and no other
pub record Gone : Type 0 where
  pub pending : Pending
  pub markers : ℕ

-- none went
abbrev pub none_gone : Pending → Gone
none_gone p = record { pending = p; markers = 0 }

-- there is one more
abbrev pub HasMarker : Gone → Type 0
HasMarker g = g.markers < markers g.pending.memory.pending

-- it goes too
abbrev pub next_of : Gone → Gone
next_of g = record g { markers = g.markers + 1 }

-- how many writes of a line must be persisted, and how many may be
abbrev pub low_in : ℕ → Gone → ℕ
low_in line g = low line g.markers g.pending.memory.pending

abbrev pub before_in : ℕ → Gone → ℕ
before_in line g = before line g.markers g.pending.memory.pending

-- the product of the choices of all lines
abbrev pub product_in : Gone → ℕ
product_in g = product all_lines g.markers g.pending.memory.pending

-- There are k markers, and of each line as many writes must be persisted as these say, where the first k went and no other. (What the code keeps.)
pub record AreLows (k : ℕ) (pending : List PendingEntry) (lows : List ℕ) : Type 0 where
  pub few : k ≤ markers pending
  pub size : length lows ≡ max_lines
  pub each : (line : ℕ) → line < max_lines → slice_index lows line ≡ low line k pending
