-- What a step showed, as text.
use Rattle.std.specs.Prelude.{ℕ, Option, Some, None, ◌++◌, codes, decimal}
use Rattle.lines_layout.specs.Layouts.{NamedLines}
use Rattle.processor.specs.declared.act.Act.{Act}
use Rattle.processor.specs.declared.act.Act.TheVariants.{Local, Fence, Read, Delay, Locked, Trap}
use Rattle.machine.specs.declared.step.Seen.{Seen}
use Rattle.machine.specs.declared.step.Seen.TheVariants.{Ran, Left, Persisted, Settled, Crashed}
use Rattle.commands.specs.StateTexts.{name_text, entry_text}
use Rattle.lines_layout.specs.Names.{Text}

-- the value that a locked operation wrote, or - where it wrote none
abbrev pub new_text : Option ℕ → Text
new_text (Some value) = decimal value
new_text None = codes "-"

-- what an instruction did
abbrev pub act_text : NamedLines → Act → Text
act_text names Local = codes "local"
act_text names Fence = codes "fence"
act_text names (Read word value) = codes "read " ++ name_text names word ++ codes " " ++ decimal value
act_text names (Delay entry) = codes "delay " ++ entry_text names entry
act_text names (Locked word old new) = codes "locked " ++ name_text names word ++ codes " " ++ decimal old ++ codes " " ++ new_text new
act_text names (Trap address) = codes "trap " ++ decimal address

-- what an accepted step showed
abbrev pub seen_text : NamedLines → Seen → Text
seen_text names (Ran p place act) = codes "ran " ++ decimal p ++ codes " " ++ decimal place ++ codes " " ++ act_text names act
seen_text names (Left p i entry) = codes "left " ++ decimal p ++ codes " " ++ decimal i ++ codes " " ++ entry_text names entry
seen_text names (Persisted word value) = codes "persisted " ++ name_text names word ++ codes " " ++ decimal value
seen_text names (Settled line) = codes "settled " ++ decimal line
seen_text names (Crashed n) = codes "crashed " ++ decimal n
