-- Numbering entries anew, in their order, by closing one gap between their serials after another. No rule of the model, and in no public clause.
use Rattle.std.specs.Prelude.{ℕ, ◌≡◌, ◌+◌, ◌-◌, ◌<◌, ◌≤◌, ◌==◌, true, cond, List, map, nat_lt, nat_le, ◌&&◌, ◌⊎◌}
use Rattle.std.specs.List.{AllByRecursion, list_any}
use Rattle.circular_buffer.specs.Buffer.{Buffer, buffer}
use Rattle.persist_buffer.specs.declared.ring.StampedEntry.{StampedEntry}
use Rattle.persist_buffer.specs.Limits.{serial_limit}
use Rattle.persist_buffer.specs.Rings.{StampedList}

-- a serial moved down by a gap where it is not below a number
abbrev pub lowered : ℕ → ℕ → ℕ → ℕ
lowered from gap n = cond (nat_lt n from) n (n - gap)

-- the same of an entry's serial
abbrev pub shifted : ℕ → ℕ → StampedEntry → StampedEntry
shifted from gap s = record { serial = lowered from gap s.serial; entry = s.entry }

-- the same of all serials of a ring
abbrev pub shifted_ring : ℕ → ℕ → Buffer StampedEntry → Buffer StampedEntry
shifted_ring from gap b = buffer (map (shifted from gap) b.items) b.capacity

-- the same of all serials of a list, and its next one stays
abbrev pub shifted_list : ℕ → ℕ → StampedList → StampedList
shifted_list from gap all = record { stamped = map (shifted from gap) all.stamped; next = all.next }

-- no serial lies in the gap that begins at a number
abbrev pub Clear : ℕ → ℕ → List StampedEntry → Type 0
Clear from gap xs = AllByRecursion (λ s. (s.serial < from) ⊎ (from + gap ≤ s.serial)) xs

-- an entry's serial where it is not below a number and less than another, otherwise that other
abbrev pub lesser : ℕ → ℕ → StampedEntry → ℕ
lesser from most s = cond (nat_le from s.serial && nat_lt s.serial most) s.serial most

-- The least serial that is not below a number, or the limit where there is none.
pub record IsLeast (all : List StampedEntry) (from least : ℕ) : Type 0 where
  pub above : AllByRecursion (λ s. (s.serial < from) ⊎ (least ≤ s.serial)) all
  pub there : (least ≡ serial_limit) ⊎ ((from ≤ least) × (list_any (λ s. s.serial == least) all ≡ true))
