-- A memory in which no line has room for another write.
use Rattle.std.specs.Prelude.{ℕ, zero, suc, ◌*◌, List, [], ◌++◌, replicate}
use Rattle.lines_layout.specs.Lines.{line_words, max_lines, max_words}
use Rattle.persist_buffer.specs.declared.entry.PendingEntry.{PendingEntry}
use Rattle.persist_buffer.specs.declared.entry.PendingEntry.TheVariants.{Write}
use Rattle.persist_buffer.specs.Limits.{line_room}
use Rattle.persist_buffer.specs.State.{Memory}

-- as many writes of 0 to the first word of each line below a number as may be pending
unfoldable pub writes_below : ℕ → List PendingEntry
writes_below zero = []
writes_below (suc line) = writes_below line ++ replicate line_room (Write (line_words * line) 0)

-- these of all lines, where each word is persisted as 0
abbrev pub full_memory : Memory
full_memory = record { pending = writes_below max_lines; persisted = replicate max_words 0 }
