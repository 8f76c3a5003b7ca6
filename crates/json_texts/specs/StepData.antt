-- Steps as JSON, and what they showed.
use Rattle.std.specs.Prelude.{ℕ, Bool, List, [], ◌∷◌, ◌++◌, codes, map}
use Rattle.lines_layout.specs.Layouts.{NamedLines}
use Rattle.lines_layout.specs.Names.{Text}
use Rattle.isa.specs.declared.instr.Instr.{Instr}
use Rattle.litmus_text.specs.Rows.{row_text}
use Rattle.litmus_text.specs.Written.{instruction_row}
use Rattle.processor.specs.declared.act.Act.{Act}
use Rattle.processor.specs.declared.act.Act.TheVariants.{Local, Fence, Read, Delay, Locked, Trap}
use Rattle.machine.specs.declared.step.Seen.{Seen}
use Rattle.machine.specs.declared.step.Seen.TheVariants.{Ran, Left, Persisted, Settled, Crashed}
use Rattle.machine.specs.declared.step.Step.{Step}
use Rattle.schedule.specs.Written.{written}
use Rattle.commands.specs.StateTexts.{name_text}
use Rattle.json_texts.specs.Objects.{Tree, list, num, obj, or_null, word}
use Rattle.json_texts.specs.SourceMaps.{SourceMap}
use Rattle.json_texts.specs.StateData.{entry_data, site_fields}

-- a step, in its written form
abbrev pub step_data : Step → Tree
step_data step = word (written step)

-- steps, in their order
abbrev pub steps_data : List Step → Tree
steps_data steps = list (map step_data steps)

-- an instruction, in its written form
abbrev pub instruction_data : NamedLines → Instr → Tree
instruction_data names instr = word (row_text (instruction_row names instr))

-- where an instruction is, with its line, and how it is written
abbrev pub site_data : SourceMap → ℕ → Bool → ℕ → Instr → Tree
site_data source p recovery place instr =
    obj (site_fields source.lines p recovery place ++ (codes "instruction", instruction_data source.names instr) ∷ [])

-- what is of this kind
abbrev pub kind_data : Text → Tree
kind_data kind = obj ((codes "kind", word kind) ∷ [])

-- what is of this kind, and has a number
abbrev pub number_data : Text → Text → ℕ → Tree
number_data kind name n = obj ((codes "kind", word kind) ∷ (name, num n) ∷ [])

-- what is of this kind, and of a word and a value of it
abbrev pub value_data : Text → NamedLines → ℕ → ℕ → Tree
value_data kind names number value = obj ((codes "kind", word kind) ∷ (codes "word", word (name_text names number)) ∷ (codes "value", num value) ∷ [])

-- what an instruction did
abbrev pub act_data : NamedLines → Act → Tree
act_data names Local = kind_data (codes "local")
act_data names Fence = kind_data (codes "fence")
act_data names (Read read value) = value_data (codes "read") names read value
act_data names (Delay entry) = obj ((codes "kind", word (codes "delay")) ∷ (codes "entry", entry_data names entry) ∷ [])
act_data names (Locked locked old new) =
    obj ((codes "kind", word (codes "locked")) ∷ (codes "word", word (name_text names locked)) ∷ (codes "old", num old) ∷ (codes "new", or_null num new) ∷ [])
act_data names (Trap address) = number_data (codes "trap") (codes "address") address

-- what an accepted step showed
abbrev pub seen_data : NamedLines → Seen → Tree
seen_data names (Ran p place act) =
    obj ((codes "kind", word (codes "ran")) ∷ (codes "cpu", num p) ∷ (codes "place", num place) ∷ (codes "act", act_data names act) ∷ [])
seen_data names (Left p i entry) =
    obj ((codes "kind", word (codes "left")) ∷ (codes "cpu", num p) ∷ (codes "place", num i) ∷ (codes "entry", entry_data names entry) ∷ [])
seen_data names (Persisted persisted value) = value_data (codes "persisted") names persisted value
seen_data names (Settled line) = number_data (codes "settled") (codes "cache_line") line
seen_data names (Crashed n) = number_data (codes "crashed") (codes "crashes") n
