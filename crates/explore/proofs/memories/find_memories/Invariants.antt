use Rattle.std.proofs.Common.{◌≡◌, ◌++◌, drop, length, map}
use Rattle.lines_layout.specs.Lines.{max_words}
use Rattle.explore.specs.FenceMemories.{entries_of, fence_memories, memories_from, memory_in}
use Rattle.explore.proofs.memories.find_memories.Given as goal

abbrev pub invariant-loop-event : goal.invariant-loop-event
invariant-loop-event l = record {
  rest : map memory_in l.found.items ++ memories_from l.window.items (entries_of (drop l.event-index l.events)) l.values.items ≡ fence_memories l.events l.persisted;
  words : length l.values.items ≡ max_words;
}
