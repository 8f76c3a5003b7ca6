-- The key of a state: bytes. Two states of one machine with one key are like each other (`Covering: IsLike`). A law speaks of it; no rule.
use Rattle.std.specs.Prelude.{ℕ, ◌+◌, Bool, true, false, List, [], ◌∷◌, ◌++◌, length, map, slice_get}
use Rattle.std.specs.Option.{option_map_or}
use Rattle.isa.specs.Registers.{reg, registers}
use Rattle.store_buffer.specs.declared.entry.Entry.{Entry}
use Rattle.store_buffer.specs.declared.entry.Entry.TheVariants as entries
use Rattle.lines_layout.specs.Shapes.{words_of}
use Rattle.persist_buffer.specs.Memories.{coherent}
use Rattle.persist_buffer.specs.State.{Memory, Pending}
use Rattle.persist_buffer.specs.declared.entry.PendingEntry.{PendingEntry}
use Rattle.persist_buffer.specs.declared.entry.PendingEntry.TheVariants.{Write, Marker}
use Rattle.machine.specs.Processors.{restart_of}
use Rattle.machine.specs.State.{Processor, State}
use Rattle.images.specs.Images.{image_at}
use Rattle.explore.specs.Canonical.{canonical}
use Rattle.explore.specs.Codes.{coded}
use Rattle.explore.specs.LineSets.{held_by, others}
use Rattle.explore.specs.Outcomes.{trap_numbers}
use Rattle.explore.specs.Ran.{flag_number}

-- three numbers for an entry of a store buffer
abbrev pub entry_key : Entry → List ℕ
entry_key (entries.Write word value) = 0 ∷ word ∷ value ∷ []
entry_key (entries.Flush line) = 1 ∷ line ∷ 0 ∷ []
entry_key (entries.FlushOpt line) = 2 ∷ line ∷ 0 ∷ []
entry_key entries.Sfence = 3 ∷ 0 ∷ 0 ∷ []

-- three numbers for a pending entry
abbrev pub pending_key : PendingEntry → List ℕ
pending_key (Write word value) = 0 ∷ word ∷ value ∷ []
pending_key (Marker line) = 1 ∷ line ∷ 0 ∷ []

-- the numbers of each entry, one after another
abbrev pub entries_key : List Entry → List ℕ
entries_key [] = []
entries_key (entry ∷ later) = entry_key entry ++ entries_key later

abbrev pub pendings_key : List PendingEntry → List ℕ
pendings_key [] = []
pendings_key (entry ∷ later) = pending_key entry ++ pendings_key later

-- what a processor runs is no part of it
abbrev pub processor_key : Processor → List ℕ
processor_key c =
    (c.place ∷ flag_number c.recovering ∷ flag_number c.regs.zero ∷ []) ++ (trap_numbers c.trap ++ (map (reg c.regs) registers ++ (length c.buffer ∷ entries_key c.buffer)))

abbrev pub processors_key : List Processor → List ℕ
processors_key [] = []
processors_key (c ∷ cpus) = processor_key c ++ processors_key cpus

-- that of processor p, if there is one; those of a state; and those of the state that a crash leaves
abbrev pub key_at : State → ℕ → List ℕ
key_at s p = option_map_or processor_key (slice_get s.processors p) []

abbrev pub cpus_key : State → List ℕ
cpus_key s = processors_key s.processors

abbrev pub restarted_key : State → List ℕ
restarted_key s = processors_key (map restart_of s.processors)

-- a pending list, with its length
abbrev pub pending_list_key : List PendingEntry → List ℕ
pending_list_key pending = length pending ∷ pendings_key pending

-- the canonical form of that of a state
abbrev pub canonical_key : State → List ℕ
canonical_key s = pending_list_key (canonical s.memory.pending)

-- the persisted values of all words
abbrev pub base_image : Pending → List ℕ
base_image pending = image_at pending.shape pending.memory.persisted

-- lists of numbers, one after another
abbrev pub joined : List (List ℕ) → List ℕ
joined [] = []
joined (xs ∷ later) = xs ++ joined later

-- the coherent values of all words
abbrev pub words_now : Memory → List ℕ → List ℕ
words_now m shape = map (coherent m) (words_of shape)

-- how many other values a line of so many words may hold, and these
abbrev pub line_key : Memory → ℕ → ℕ → List ℕ
line_key m line count = let found = others (held_by m line count) in length found ∷ joined found

-- those of lines of which the first has the number g
abbrev pub lines_key : Memory → ℕ → List ℕ → List ℕ
lines_key m g [] = []
lines_key m g (count ∷ shape) = line_key m g count ++ lines_key m (g + 1) shape

-- the coherent values, and the other values that each line may hold
abbrev pub sets_key : State → List ℕ
sets_key s = words_now s.memory s.shape ++ lines_key s.memory 0 s.shape

-- lines of so many words, none of which may hold other values
abbrev pub none_key : List ℕ → List ℕ
none_key [] = []
none_key (count ∷ shape) = 0 ∷ none_key shape

-- In what follows `sets` is true where keys tell what each line may hold, and false where they tell what is pending and persisted.

-- what is told of a memory: what each line may hold; or the canonical form of the pending list, and the persisted values
abbrev pub memory_key : Bool → State → List ℕ
memory_key true s = sets_key s
memory_key false s = canonical_key s ++ image_at s.shape s.memory.persisted

-- what is told of a memory whose images were looked at, as bytes: its pending list in canonical form, and its persisted values
abbrev pub list_key : State → List ℕ
list_key s = coded (memory_key false s)

-- the numbers of a state
abbrev pub numbers_of : Bool → State → List ℕ
numbers_of sets s = cpus_key s ++ memory_key sets s

-- the numbers as bytes
abbrev pub key_of : Bool → State → List ℕ
key_of sets s = coded (numbers_of sets s)

-- what is told of the memory that a crash leaves, where it leaves this image
abbrev pub fallen_memory_key : Bool → List ℕ → List ℕ → List ℕ
fallen_memory_key true shape image = image ++ none_key shape
fallen_memory_key false shape image = pending_list_key [] ++ image

-- the key of the state that a crash leaves, where it leaves this image
abbrev pub fallen_key : Bool → State → List ℕ → List ℕ
fallen_key sets s image = coded (restarted_key s ++ fallen_memory_key sets s.shape image)

-- the place, whether it runs its recovery program, and the zero flag
abbrev pub head_key : Processor → List ℕ
head_key c = c.place ∷ flag_number c.recovering ∷ flag_number c.regs.zero ∷ []

-- the values of the registers
abbrev pub registers_key : Processor → List ℕ
registers_key c = map (reg c.regs) registers
