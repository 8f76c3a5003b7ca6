-- Straight-line programs of one processor: which events take place is given, in program order; when stores and flushes take effect is not.
use Rattle.std.specs.Prelude.{◌≡◌, ℕ, zero, suc, Ok, List, [], ◌∷◌, ◌++◌}
use Rattle.store_buffer.specs.declared.entry.Entry.{Entry}
use Rattle.store_buffer.specs.declared.entry.Entry.TheVariants as entries
use Rattle.store_buffer.specs.Buffers.{take_of}
use Rattle.persist_buffer.specs.declared.entry.PendingEntry.{PendingEntry}
use Rattle.persist_buffer.specs.declared.entry.PendingEntry.TheVariants.{Write, Marker}
use Rattle.persist_buffer.specs.State.{Memory}
use Rattle.pending_images.specs.Changes.{Change, IsReached}
use Rattle.explore.specs.Covering.{grown}
use Rattle.explore.specs.declared.event.Event.{Event}
use Rattle.explore.specs.declared.event.Event.TheVariants.{Delayed, Waited, LockedWrite}

-- what an entry that leaves the store buffer puts at the end of the pending list
abbrev pub pending_of : Entry → List PendingEntry
pending_of (entries.Write word value) = Write word value ∷ []
pending_of (entries.Flush line) = Marker line ∷ []
pending_of (entries.FlushOpt line) = Marker line ∷ []
pending_of entries.Sfence = []

-- Where a run stands: the events still to come, the store buffer, oldest entry first, and the memory.
pub record Configuration : Type 0 where
  pub events : List Event
  pub buffer : List Entry
  pub memory : Memory

-- One transition: the next event takes place, an entry leaves the store buffer, or the memory changes by itself. These are the
-- machine's rules without its limits: store buffer and pending list always have room.
pub data Transition (old new : Configuration) : Type 0 where
  delays : (entry : Entry) (later : List Event) → old.events ≡ Delayed entry ∷ later
      → new ≡ record { events = later; buffer = old.buffer ++ entry ∷ []; memory = old.memory } → Transition old new
  waits : (later : List Event) → old.events ≡ Waited ∷ later → old.buffer ≡ []
      → new ≡ record { events = later; buffer = []; memory = old.memory } → Transition old new
  locks : (word value : ℕ) (later : List Event) → old.events ≡ LockedWrite word value ∷ later → old.buffer ≡ []
      → new ≡ record { events = later; buffer = []; memory = grown old.memory (Write word value ∷ []) } → Transition old new
  drains : (i : ℕ) (entry : Entry) (buffer : List Entry) → take_of old.buffer i ≡ Ok (entry, buffer)
      → new ≡ record { events = old.events; buffer = buffer; memory = grown old.memory (pending_of entry) } → Transition old new
  changes : (memory : Memory) → Change old.memory memory
      → new ≡ record { events = old.events; buffer = old.buffer; memory = memory } → Transition old new

-- n transitions, one after another
abbrev pub Transitions : ℕ → Configuration → Configuration → Type 0
Transitions zero old new = new ≡ old
Transitions (suc n) old new = (mid : Configuration) × Transition old mid × Transitions n mid new

-- Some run of these events from this memory, with nothing buffered, comes to where a crash may leave these persisted values.
abbrev pub IsLeftBy : List Event → Memory → List ℕ → Type 0
IsLeftBy events m persisted =
    (n : ℕ) × (end : Configuration) × Transitions n (record { events = events; buffer = []; memory = m }) end × IsReached end.memory persisted

-- a memory in which nothing is pending
abbrev pub nothing_pending : List ℕ → Memory
nothing_pending persisted = record { pending = []; persisted = persisted }
