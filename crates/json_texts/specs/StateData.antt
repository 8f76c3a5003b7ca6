-- The state of a machine as JSON, and how a run ended.
use Rattle.std.specs.Prelude.{ℕ, ◌+◌, ◌*◌, Bool, if◌then◌else◌, Option, None, Some, List, [], ◌∷◌, ◌++◌, codes, slice_index, ◌==◌}
use Rattle.std.specs.List.{flat_map}
use Rattle.lines_layout.specs.Layouts.{NamedLines}
use Rattle.lines_layout.specs.Lines.{line_of, line_words}
use Rattle.lines_layout.specs.Names.{Text}
use Rattle.isa.specs.declared.register.Reg.{Reg}
use Rattle.isa.specs.declared.register.Regs.{Regs}
use Rattle.isa.specs.Registers.{name_of, reg, registers}
use Rattle.store_buffer.specs.declared.entry.Entry.{Entry}
use Rattle.store_buffer.specs.declared.entry.Entry.TheVariants as entries
use Rattle.persist_buffer.specs.declared.entry.PendingEntry.{PendingEntry}
use Rattle.persist_buffer.specs.declared.entry.PendingEntry.TheVariants as pendings
use Rattle.persist_buffer.specs.Memories.{coherent}
use Rattle.persist_buffer.specs.State.{Memory}
use Rattle.image_reasons.specs.Origins.{Origins, buffered_site, no_origins, pending_site}
use Rattle.image_reasons.specs.declared.entries.Site.{Site}
use Rattle.machine.specs.declared.refusal.Refusal.{Refusal}
use Rattle.machine.specs.declared.refusal.Refusal.TheVariants.{Spent, NoCpu, Halted, BufferNotEmpty, BufferFull, NoEntry, Held, LineFull, MarkersFull, NoLine, NoPending, BehindMarker, NoMarker, MarkerWaits}
use Rattle.machine.specs.Processors.{halted}
use Rattle.machine.specs.State.{Processor, State}
use Rattle.machine.specs.Steps.{End}
use Rattle.commands.specs.Sentences.{refusal_sentence}
use Rattle.commands.specs.StateTexts.{name_text, program_text, progress_text}
use Rattle.json_texts.specs.Objects.{Field, Tree, header, list, num, obj, or_null, word}
use Rattle.litmus_text.specs.TextLines.{TextLines, line_at}
use Rattle.json_texts.specs.SourceMaps.{SourceMap}

-- ---- what is delayed, and what is pending

-- a write
abbrev pub write_fields : NamedLines → ℕ → ℕ → List Field
write_fields names written value = (codes "kind", word (codes "W")) ∷ (codes "word", word (name_text names written)) ∷ (codes "value", num value) ∷ []

-- what is of a cache line
abbrev pub line_fields : Text → ℕ → List Field
line_fields kind line = (codes "kind", word kind) ∷ (codes "cache_line", num line) ∷ []

-- a store fence
abbrev pub fence_fields : List Field
fence_fields = (codes "kind", word (codes "SF")) ∷ []

-- an entry of a store buffer
abbrev pub entry_fields : NamedLines → Entry → List Field
entry_fields names (entries.Write written value) = write_fields names written value
entry_fields names (entries.Flush line) = line_fields (codes "FL") line
entry_fields names (entries.FlushOpt line) = line_fields (codes "FO") line
entry_fields names entries.Sfence = fence_fields

-- the same as an object
abbrev pub entry_data : NamedLines → Entry → Tree
entry_data names entry = obj (entry_fields names entry)

-- an entry of the pending list
abbrev pub pending_fields : NamedLines → PendingEntry → List Field
pending_fields names (pendings.Write written value) = write_fields names written value
pending_fields names (pendings.Marker line) = line_fields (codes "PER") line

-- ---- where entries come from

-- where an instruction is, and its line
abbrev pub site_fields : TextLines → ℕ → Bool → ℕ → List Field
site_fields lines p recovery place =
    (codes "cpu", num p) ∷ (codes "program", word (program_text recovery)) ∷ (codes "place", num place)
    ∷ (codes "line", or_null num (line_at lines p recovery place)) ∷ []

-- the same as an object
abbrev pub where_data : TextLines → Site → Tree
where_data lines site = obj (site_fields lines site.processor site.recovering site.place)

-- the same of one that may be absent
abbrev pub where_if : TextLines → Option Site → Tree
where_if lines site = or_null (where_data lines) site

-- an entry, and the instruction that it is of, if that is known
abbrev pub sited_data : TextLines → List Field → Option Site → Tree
sited_data lines entry site = obj ((codes "site", where_if lines site) ∷ entry)

-- entries of processor p's store buffer, of which the first has this place
abbrev pub buffer_from : SourceMap → Origins → ℕ → ℕ → List Entry → List Tree
buffer_from source o p place [] = []
buffer_from source o p place (entry ∷ later) =
    sited_data source.lines (entry_fields source.names entry) (buffered_site o p place) ∷ buffer_from source o p (place + 1) later

-- entries of the pending list, of which the first has this place
abbrev pub pending_from : SourceMap → Origins → ℕ → List PendingEntry → List Tree
pending_from source o place [] = []
pending_from source o place (entry ∷ later) =
    sited_data source.lines (pending_fields source.names entry) (pending_site o place) ∷ pending_from source o (place + 1) later

-- ---- processors

-- a register, unless it is 0
abbrev pub register_fields : Regs → Reg → List Field
register_fields regs r = if reg regs r == 0 then [] else ((name_of r, num (reg regs r)) ∷ [])

-- the registers that are not 0
abbrev pub registers_data : Regs → Tree
registers_data regs = obj (flat_map (register_fields regs) registers)

-- a flag as 0 or 1
abbrev pub flag_number : Bool → ℕ
flag_number set = if set then 1 else 0

-- where processor p is, and what it does next
abbrev pub cpu_fields : TextLines → ℕ → Processor → List Field
cpu_fields lines p c =
    site_fields lines p c.recovering c.place
    ++ (codes "progress", word (progress_text c.trap (halted c))) ∷ (codes "trap", or_null num c.trap) ∷ (codes "zf", num (flag_number c.regs.zero)) ∷ []

-- the same with its registers and its store buffer, oldest first
abbrev pub cpu_data : SourceMap → Origins → ℕ → Processor → Tree
cpu_data source o p c =
    obj (cpu_fields source.lines p c ++ (codes "registers", registers_data c.regs) ∷ (codes "buffer", list (buffer_from source o p 0 c.buffer)) ∷ [])

-- processors, of which the first has the number p
abbrev pub cpus_from : SourceMap → Origins → ℕ → List Processor → List Tree
cpus_from source o p [] = []
cpus_from source o p (c ∷ others) = cpu_data source o p c ∷ cpus_from source o (p + 1) others

-- ---- words

-- a word of this name and number, and the number of its cache line
abbrev pub word_data : Memory → Text → ℕ → Tree
word_data m name number =
    obj ((codes "word", word name) ∷ (codes "cache_line", num (line_of number)) ∷ (codes "coherent", num (coherent m number))
    ∷ (codes "persisted", num (slice_index m.persisted number)) ∷ [])

-- the words of a line, of which the first has this number
abbrev pub words_from : Memory → ℕ → List Text → List Tree
words_from m number [] = []
words_from m number (name ∷ names) = word_data m name number ∷ words_from m (number + 1) names

-- the words of lines, of which the first has the number g
abbrev pub lines_from : Memory → ℕ → NamedLines → List Tree
lines_from m g [] = []
lines_from m g (line ∷ lines) = words_from m (line_words * g) line ++ lines_from m (g + 1) lines

-- ---- the whole

-- a state: the counts of turns and crashes, the processors, the words, and what is pending, oldest first; of each entry the
-- instruction that it is of, as far as it is kept
abbrev pub sited_state : SourceMap → Origins → State → Tree
sited_state source o s =
    obj ((codes "turns", num s.turns) ∷ (codes "crashes", num s.crashes) ∷ (codes "cpus", list (cpus_from source o 0 s.processors))
    ∷ (codes "words", list (lines_from s.memory 0 source.names)) ∷ (codes "pending", list (pending_from source o 0 s.memory.pending)) ∷ [])

-- the same of a state of which no instruction is kept
abbrev pub state_data : SourceMap → State → Tree
state_data source s = sited_state source (no_origins 0) s

-- the number of a refusal
abbrev pub refusal_number : Refusal → Text
refusal_number Spent = codes "M1"
refusal_number NoCpu = codes "M2"
refusal_number Halted = codes "M3"
refusal_number BufferNotEmpty = codes "M4"
refusal_number BufferFull = codes "M5"
refusal_number NoEntry = codes "M6"
refusal_number (Held holder) = codes "M7"
refusal_number LineFull = codes "M8"
refusal_number MarkersFull = codes "M9"
refusal_number NoLine = codes "M10"
refusal_number NoPending = codes "M11"
refusal_number BehindMarker = codes "M12"
refusal_number NoMarker = codes "M13"
refusal_number MarkerWaits = codes "M14"

-- the name of a refusal
abbrev pub refusal_name : Refusal → Text
refusal_name Spent = codes "Spent"
refusal_name NoCpu = codes "NoCpu"
refusal_name Halted = codes "Halted"
refusal_name BufferNotEmpty = codes "BufferNotEmpty"
refusal_name BufferFull = codes "BufferFull"
refusal_name NoEntry = codes "NoEntry"
refusal_name (Held holder) = codes "Held"
refusal_name LineFull = codes "LineFull"
refusal_name MarkersFull = codes "MarkersFull"
refusal_name NoLine = codes "NoLine"
refusal_name NoPending = codes "NoPending"
refusal_name BehindMarker = codes "BehindMarker"
refusal_name NoMarker = codes "NoMarker"
refusal_name MarkerWaits = codes "MarkerWaits"

-- the place of the entry that holds another
abbrev pub refusal_place : Refusal → Option ℕ
refusal_place (Held holder) = Some holder
refusal_place refusal = None

-- a step that was refused, with its index in the list, and a sentence on its refusal
abbrev pub refused_data : ℕ → Refusal → Tree
refused_data at refusal =
    obj ((codes "at", num at) ∷ (codes "number", word (refusal_number refusal)) ∷ (codes "name", word (refusal_name refusal))
    ∷ (codes "place", or_null num (refusal_place refusal)) ∷ (codes "sentence", word (refusal_sentence refusal)) ∷ [])

-- how a run ended
abbrev pub run_data : SourceMap → Origins → End → Tree
run_data source o end =
    obj (header (codes "run") ++ (codes "state", sited_state source o end.state) ∷ (codes "refused", or_null (refused_data end.accepted) end.refusal) ∷ [])
