-- What the last step changed.
use Rattle.std.specs.Prelude.{ℕ, ◌+◌, ◌-◌, ◌==◌, Bool, not, if◌then◌else◌, Option, Some, None, List, [], ◌∷◌, ◌++◌, bytes_eq, length, slice_get, take}
use Rattle.std.specs.List.{flat_map, list_any}
use Rattle.lines_layout.specs.Layouts.{NamedLines}
use Rattle.lines_layout.specs.Names.{Text}
use Rattle.litmus_text.specs.declared.text_lines.LinedObject.{LinedObject}
use Rattle.text_tokens.specs.Text.{lines_of}
use Rattle.machine.specs.State.{Processor, State}
use Rattle.machine.specs.declared.step.Step.{Step}
use Rattle.commands.specs.StateTexts.{below_text, counts_text, cpu_line, cpu_text, end_of_line, memory_text}
use Rattle.conversations.specs.Checking.{reached}
use Rattle.conversations.specs.Desks.{ascii}

-- a line that a text does not have
abbrev pub is_new : Text → Text → Bool
is_new old line = not (list_any (bytes_eq line) (lines_of old))

-- the one text has a line that the other does not have
abbrev pub has_new : Text → Text → Bool
has_new old new = list_any (is_new old) (lines_of new)

-- a line, which is of ASCII, if it is new
abbrev pub line_if_new : Text → Text → Text
line_if_new old line = if is_new old line then (flat_map ascii line ++ end_of_line) else []

-- the lines of the one text that the other does not have
abbrev pub new_lines : Text → Text → Text
new_lines old new = flat_map (line_if_new old) (lines_of new)

-- of processor p, which had the text old, its line, and of those below it the new ones; nothing where none of all these lines is new
abbrev pub changed_cpu : NamedLines → Text → ℕ → Processor → Text
changed_cpu names old p c = if has_new old (cpu_text names p c) then (cpu_line p c ++ new_lines old (below_text names c)) else []

-- the text that processor p of a state has; nothing where there is none
abbrev pub text_of_cpu : NamedLines → ℕ → Option Processor → Text
text_of_cpu names p None = []
text_of_cpu names p (Some c) = cpu_text names p c

-- of processors, of which the first has the number p, what changed since a state
abbrev pub changed_cpus : NamedLines → List Processor → ℕ → List Processor → Text
changed_cpus names olds p [] = []
changed_cpus names olds p (c ∷ others) =
    changed_cpu names (text_of_cpu names p (slice_get olds p)) p c ++ changed_cpus names olds (p + 1) others

-- Of the lines of a state those that another did not have. A line of a processor is new if that processor did not have it.
abbrev pub changed_since : NamedLines → State → State → Text
changed_since names old new =
    new_lines (counts_text old) (counts_text new)
    ++ changed_cpus names old.processors 0 new.processors
    ++ new_lines (memory_text names old.memory) (memory_text names new.memory)

-- Of a state to which these steps of a program lead, what changed by the last of them; nothing where there is no step.
abbrev pub changed_text : LinedObject → List Step → State → Text
changed_text lined steps s =
    if length steps == 0 then []
    else changed_since lined.object.layout (reached lined (take (length steps - 1) steps)) s
