-- Candidates: how many ways there are to stop, of which two may leave one image.
use Rattle.std.specs.Prelude.{ℕ, zero, suc, ◌+◌, ◌-◌, ◌*◌, ◌==◌, Bool, false, List, Option, None, Some, count_by, filter, slice_get, nat_le, if◌then◌else◌}
use Rattle.lines_layout.specs.Lines.{max_lines}
use Rattle.persist_buffer.specs.declared.entry.PendingEntry.{PendingEntry}
use Rattle.persist_buffer.specs.declared.entry.PendingEntry.TheVariants.{Marker}
use Rattle.persist_buffer.specs.Memories.{is_write_on, is_marker}
use Rattle.persist_buffer.specs.Listings.{before_marker}
use Rattle.persist_buffer.specs.State.{Pending}
use Rattle.pending_images.specs.declared.total.Count.{Count}
use Rattle.pending_images.specs.declared.total.Count.TheVariants.{Number, More}

-- how many markers are pending
abbrev pub markers : List PendingEntry → ℕ
markers pending = count_by is_marker pending

-- marker k, from 0 and oldest first
abbrev pub marker_at : ℕ → List PendingEntry → Option PendingEntry
marker_at k pending = slice_get (filter is_marker pending) k

-- how many writes of a line are before marker k; where there are k markers, all of them
abbrev pub before : ℕ → ℕ → List PendingEntry → ℕ
before line k pending = count_by (is_write_on line) (before_marker k pending)

-- whether a marker, where there is one, is one of the line
abbrev pub is_of : ℕ → Option PendingEntry → Bool
is_of line (Some (Marker other)) = other == line
is_of line _ = false

-- how many writes of a line are before the last of its markers among the first k; 0 where it has none there
abbrev pub low : ℕ → ℕ → List PendingEntry → ℕ
low line zero pending = 0
low line (suc k) pending = if is_of line (marker_at k pending) then before line k pending else low line k pending

-- how many numbers of writes of a line may be persisted where the first k markers went and no other
abbrev pub choices : ℕ → ℕ → List PendingEntry → ℕ
choices line k pending = before line k pending - low line k pending + 1

-- the product of the choices of the lines below a number
abbrev pub product : ℕ → ℕ → List PendingEntry → ℕ
product zero k pending = 1
product (suc line) k pending = product line k pending * choices line k pending

-- the sum of the products where fewer than n markers went
abbrev pub products_below : ℕ → ℕ → List PendingEntry → ℕ
products_below lines zero pending = 0
products_below lines (suc k) pending = products_below lines k pending + product lines k pending

-- how many lines a layout may have; no proof counts down from it
unfoldable pub all_lines : ℕ
all_lines = max_lines

-- the candidates of a pending list: one product for each number of markers that went, from none to all
abbrev pub candidates : List PendingEntry → ℕ
candidates pending = products_below all_lines (markers pending + 1) pending

-- how many candidates are counted at most
abbrev pub most_candidates : ℕ
most_candidates = 65536

-- a number of candidates, as far as it is counted
abbrev pub count_of : ℕ → Count
count_of n = if nat_le n most_candidates then Number n else More

-- what is counted of a pending list, if it is one that can be counted
abbrev pub counted : Option Pending → Count
counted (Some p) = Number (candidates p.memory.pending)
counted None = More
