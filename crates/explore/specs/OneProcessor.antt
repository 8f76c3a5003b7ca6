-- Machines of one processor: what their crashes leave, without a search.
use Rattle.std.specs.Prelude.{◌≡◌, ◌≤◌, ℕ, true, false, List, [], ◌∷◌, Contains, count_by, length}
use Rattle.store_buffer.specs.declared.entry.Entry.{Entry}
use Rattle.store_buffer.specs.Buffers.{buffer_room}
use Rattle.persist_buffer.specs.Limits.{line_room, marker_room}
use Rattle.persist_buffer.specs.Memories.{is_marker, is_write_on}
use Rattle.persist_buffer.specs.State.{Memory}
use Rattle.machine.specs.Limits.{max_turns}
use Rattle.machine.specs.Processors.{restart_of}
use Rattle.machine.specs.State.{Processor, State}
use Rattle.explore.specs.Explored.{fallen}
use Rattle.explore.specs.Reachable.{IsReachable}
use Rattle.explore.specs.Alone.{ends_alone, events_alone}
use Rattle.explore.specs.FenceMemories.{IsReachedInOne, fence_memories}

-- A machine has one processor, and nothing is buffered or pending.
pub record IsAlone (s : State) (c : Processor) : Type 0 where
  pub only : s.processors ≡ c ∷ []
  pub buffer : c.buffer ≡ []
  pub pending : s.memory.pending ≡ []

-- A crash in one of the memories at the fences of its program may leave these persisted values. At most so many of its instructions are run.
abbrev pub IsLeftAlone : ℕ → State → Processor → List ℕ → Type 0
IsLeftAlone most s c persisted = IsReachedInOne (fence_memories (events_alone most s c) s.memory.persisted) persisted

-- A list is closed under crashes: it holds all persisted values that a crash of the program leaves, and with each of them those that
-- a crash of its recovery leaves. All these programs end within so many instructions.
pub record IsClosedUnderCrashes (most : ℕ) (s : State) (c : Processor) (list : List (List ℕ)) : Type 0 where
  pub ends : ends_alone most s c ≡ true
  pub left : (persisted : List ℕ) → IsLeftAlone most s c persisted → Contains list persisted
  pub ends_again : (old : List ℕ) → Contains list old → ends_alone most (fallen s old) (restart_of c) ≡ true
  pub left_again : (old persisted : List ℕ) → Contains list old → IsLeftAlone most (fallen s old) (restart_of c) persisted → Contains list persisted

-- ---- room and turns

-- There is no room: the store buffer is full, or the pending list has as many writes of a line, or as many markers, as it may have.
pub data LacksRoom (buffer : List Entry) (m : Memory) : Type 0 where
  buffer_full : buffer_room ≤ length buffer → LacksRoom buffer m
  line_full : (line : ℕ) → line_room ≤ count_by (is_write_on line) m.pending → LacksRoom buffer m
  markers_full : marker_room ≤ count_by is_marker m.pending → LacksRoom buffer m

-- Some run without a crash leads to a state in which the only processor has no room.
pub record RunsOutOfRoom (s : State) : Type 0 where
  pub state : State
  pub processor : Processor
  pub reached : IsReachable false s state
  pub only : state.processors ≡ processor ∷ []
  pub full : LacksRoom processor.buffer state.memory

-- Some run without a crash spends all turns.
abbrev pub RunsOutOfTurns : State → Type 0
RunsOutOfTurns s = (t : State) × IsReachable false s t × (max_turns ≤ t.turns)
