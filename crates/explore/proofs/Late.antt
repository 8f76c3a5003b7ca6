-- Late pending lists: those that a program makes whose writes leave at once, and whose flushes leave as late as they may.
use Rattle.std.proofs.Common.{◌≡◌, ℕ, Bool, true, false, Ok, List, [], ◌∷◌, ◌++◌, length, map, refl}
use Rattle.std.specs.Prelude.{◌⊎◌, ◌==◌, if◌then◌else◌}
use Rattle.std.specs.List.{list_any}
use Rattle.lines_layout.specs.Lines.{line_of}
use Rattle.store_buffer.specs.declared.entry.Entry.{Entry}
use Rattle.store_buffer.specs.declared.entry.Entry.TheVariants as entries
use Rattle.store_buffer.specs.Buffers.{is_held_by, take_of}
use Rattle.store_buffer.proofs.TakingIsASplit.{taking_always, taking_only}
use Rattle.persist_buffer.specs.declared.entry.PendingEntry.{PendingEntry}
use Rattle.persist_buffer.specs.declared.entry.PendingEntry.TheVariants.{Write, Marker}
use Rattle.persist_buffer.specs.State.{Memory}
use Rattle.explore.specs.Canonical.{MayLeave, no_line}
use Rattle.explore.specs.StraightLine.{pending_of}

-- ---- entries leave a store buffer

-- An entry leaves: no earlier one holds it, and the others keep their order.
pub record Leaves (entry : Entry) (old new : List Entry) : Type 0 where
  pub before : List Entry
  pub later : List Entry
  pub whole : old ≡ before ++ entry ∷ later
  pub free : list_any (is_held_by entry) before ≡ false
  pub rest : new ≡ before ++ later

-- this is the rule of the store buffer
pub leaves_of_take : (old new : List Entry) (i : ℕ) (entry : Entry) → take_of old i ≡ Ok (entry, new) → Leaves entry old new
leaves_of_take old new i entry e =
    let (before, later, split) = taking_only old new i entry e in
    record { before = before; later = later; whole = split.whole; free = split.free; rest = split.rest }

pub take_of_leaves : (old new : List Entry) (entry : Entry) → (left : Leaves entry old new) → take_of old (length left.before) ≡ Ok (entry, new)
take_of_leaves old new entry left =
    taking_always old new (length left.before) entry left.before left.later (record { whole = left.whole; place = refl; free = left.free; rest = left.rest })

-- entries leave one after another, in this order
abbrev pub LeaveInOrder : List Entry → List Entry → List Entry → Type 0
LeaveInOrder old [] new = new ≡ old
LeaveInOrder old (entry ∷ order) new = (mid : List Entry) × Leaves entry old mid × LeaveInOrder mid order new

-- the pending list that an order makes
abbrev pub pending_by : List Entry → List PendingEntry
pending_by [] = []
pending_by (entry ∷ order) = pending_of entry ++ pending_by order

-- ---- late lists

-- whether a line is one of these
abbrev pub is_among : ℕ → List ℕ → Bool
is_among line [] = false
is_among line (other ∷ lines) = if other == line then true else is_among line lines

-- the others
abbrev pub without : ℕ → List ℕ → List ℕ
without line [] = []
without line (other ∷ lines) = if other == line then without line lines else other ∷ without line lines

-- a marker of each line
abbrev pub markers : List ℕ → List PendingEntry
markers lines = map Marker lines

-- A late pending list of a program before which optimized flushes of these lines wait. Each write leaves at once, and so does each
-- clflush. Optimized flushes wait for the next fence, or for the next clflush of their line. Before a write of a line whose flush
-- waits there is a choice: the marker goes first, or waits on.
abbrev pub IsLate : List ℕ → List Entry → List PendingEntry → Type 0
IsLate waiting [] pending = pending ≡ []
IsLate waiting (entries.Write word value ∷ later) pending =
    ((rest : List PendingEntry) × (pending ≡ Write word value ∷ rest) × IsLate waiting later rest)
    ⊎ ((rest : List PendingEntry) × (is_among (line_of word) waiting ≡ true) × (pending ≡ Marker (line_of word) ∷ Write word value ∷ rest)
    × IsLate (without (line_of word) waiting) later rest)
IsLate waiting (entries.Flush line ∷ later) pending = (rest : List PendingEntry) × (pending ≡ Marker line ∷ rest) × IsLate (without line waiting) later rest
IsLate waiting (entries.FlushOpt line ∷ later) pending = IsLate (line ∷ waiting) later pending
IsLate waiting (entries.Sfence ∷ later) pending = (rest : List PendingEntry) × (pending ≡ markers waiting ++ rest) × IsLate [] later rest

-- One pending list is dominated by another: whatever may leave it may leave the other, whatever is blocked.
abbrev pub IsBelow : List PendingEntry → List PendingEntry → Type 0
IsBelow xs ys = (blocked : ℕ → Bool) (old new : List ℕ) → MayLeave blocked xs old new → MayLeave blocked ys old new

-- one of the late lists of a program may leave these persisted values
abbrev pub IsLeftByALate : List Entry → List ℕ → List ℕ → Type 0
IsLeftByALate es old new = (late : List PendingEntry) × IsLate [] es late × MayLeave no_line late old new

-- the same behind what is pending
abbrev pub IsLeftByLate : List Entry → Memory → List ℕ → Type 0
IsLeftByLate es m persisted = (late : List PendingEntry) × IsLate [] es late × MayLeave no_line (m.pending ++ late) m.persisted persisted
