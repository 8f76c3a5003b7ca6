-- The memories of a straight-line program at its fences. What crashes anywhere in its runs may leave is what crashes in these may leave: a law.
use Rattle.std.specs.Prelude.{◌⊎◌, ℕ, suc, Bool, true, false, List, [], ◌∷◌, ◌++◌, map, ◌==◌, slice_set, if◌then◌else◌}
use Rattle.lines_layout.specs.Lines.{line_of}
use Rattle.store_buffer.specs.declared.entry.Entry.{Entry}
use Rattle.store_buffer.specs.declared.entry.Entry.TheVariants as entries
use Rattle.persist_buffer.specs.declared.entry.PendingEntry.{PendingEntry}
use Rattle.persist_buffer.specs.declared.entry.PendingEntry.TheVariants.{Write, Marker}
use Rattle.persist_buffer.specs.State.{Memory}
use Rattle.pending_images.specs.Changes.{IsReached}
use Rattle.explore.specs.declared.event.Event.{Event}
use Rattle.explore.specs.declared.event.Event.TheVariants.{Delayed, Waited, LockedWrite}
use Rattle.explore.specs.declared.memories.CrashMemory.{CrashMemory}

-- the entries that stand for an event: one that waits for an empty store buffer is like an sfence, and a locked write comes behind one
abbrev pub entries_of_event : Event → List Entry
entries_of_event (Delayed entry) = entry ∷ []
entries_of_event Waited = entries.Sfence ∷ []
entries_of_event (LockedWrite word value) = entries.Sfence ∷ entries.Write word value ∷ []

-- those of a program
abbrev pub entries_of : List Event → List Entry
entries_of [] = []
entries_of (event ∷ later) = entries_of_event event ++ entries_of later

-- whether an entry is a flush of this line, of either kind
abbrev pub flushes : ℕ → Entry → Bool
flushes line (entries.Flush other) = other == line
flushes line (entries.FlushOpt other) = other == line
flushes line _ = false

-- whether one of these entries is
abbrev pub is_flushed : ℕ → List Entry → Bool
is_flushed line [] = false
is_flushed line (entry ∷ later) = if flushes line entry then true else is_flushed line later

-- the writes that no flush of their line follows
abbrev pub unflushed : List Entry → List Entry
unflushed [] = []
unflushed (entries.Write word value ∷ later) = if is_flushed (line_of word) later then unflushed later else entries.Write word value ∷ unflushed later
unflushed (_ ∷ later) = unflushed later

-- the persisted values once all its other writes have persisted
abbrev pub with_flushed : List Entry → List ℕ → List ℕ
with_flushed [] old = old
with_flushed (entries.Write word value ∷ later) old =
    if is_flushed (line_of word) later then with_flushed later (slice_set old word value) else with_flushed later old
with_flushed (_ ∷ later) old = with_flushed later old

-- what is pending at the end of a window, before the fence: clflush leaves a marker, and an optimized flush orders nothing before a fence
abbrev pub pending_in : List Entry → List PendingEntry
pending_in [] = []
pending_in (entries.Write word value ∷ later) = Write word value ∷ pending_in later
pending_in (entries.Flush line ∷ later) = Marker line ∷ pending_in later
pending_in (_ ∷ later) = pending_in later

-- The memories from a window on, which has the entries since the last fence. At the next fence its flushed writes are persisted, and
-- its other writes begin the next window.
abbrev pub memories_from : List Entry → List Entry → List ℕ → List Memory
memories_from window [] old = record { pending = pending_in window; persisted = old } ∷ []
memories_from window (entries.Sfence ∷ later) old =
    record { pending = pending_in window; persisted = old } ∷ memories_from (unflushed window) later (with_flushed window old)
memories_from window (entry ∷ later) old = memories_from (window ++ entry ∷ []) later old

-- those of a program that begins with these persisted values, and with nothing buffered or pending
abbrev pub fence_memories : List Event → List ℕ → List Memory
fence_memories events old = memories_from [] (entries_of events) old

-- a crash in one of these memories may leave these persisted values
abbrev pub IsReachedInOne : List Memory → List ℕ → Type 0
IsReachedInOne [] persisted = ⊥
IsReachedInOne (m ∷ ms) persisted = IsReached m persisted ⊎ IsReachedInOne ms persisted

-- ---- fences

-- whether an event is a fence: an sfence, or one that waits for an empty store buffer
abbrev pub is_fence : Event → Bool
is_fence (Delayed entries.Sfence) = true
is_fence (Delayed _) = false
is_fence Waited = true
is_fence (LockedWrite word value) = true

-- how many events are
abbrev pub fences_in : List Event → ℕ
fences_in [] = 0
fences_in (event ∷ later) = if is_fence event then suc (fences_in later) else fences_in later

-- the stores of some events that no flush of their line follows, to be made again
abbrev pub stored_again : List Event → List Event
stored_again events = map Delayed (unflushed (entries_of events))

-- ---- the code's memories

-- what is pending and what is persisted, as one value
abbrev pub memory_in : CrashMemory → Memory
memory_in m = record { pending = m.pending.items; persisted = m.persisted.items }
