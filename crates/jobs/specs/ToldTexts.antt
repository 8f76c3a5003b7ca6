-- What is said of the writes that are missing in an image: those that are told as enough alone, and how many others there are.
use Rattle.std.specs.Prelude.{ℕ, ◌-◌, ◌==◌, if◌then◌else◌, nat_le, Option, Some, None, List, [], ◌∷◌, ◌++◌, codes, decimal, length}
use Rattle.std.specs.List.{count_by, flat_map}
use Rattle.lines_layout.specs.Layouts.{NamedLines}
use Rattle.lines_layout.specs.Names.{Text}
use Rattle.litmus_text.specs.TextLines.{TextLines}
use Rattle.causes.specs.declared.told.Told.{Told}
use Rattle.causes.specs.Enough.{most_tried}
use Rattle.commands.specs.ImageTexts.{line}
use Rattle.commands.specs.MissingTexts.{image_named, missing_line}

-- the line of a missing write
abbrev pub told_line : NamedLines → TextLines → Told → Text
told_line names lines told = missing_line names lines told.write

-- the same if it is told as enough
abbrev pub enough_line : NamedLines → TextLines → Told → Text
enough_line names lines told = if told.enough then told_line names lines told else []

-- how many are told as enough
abbrev pub enough_count : List Told → ℕ
enough_count told = count_by (λ one. one.enough) told

-- what would have been, with so many that are each enough
abbrev pub held_text : ℕ → Text
held_text count = if count == 1 then codes "with this: held" else codes "with each of these: held"

-- how many others are missing, if any is
abbrev pub others_text : ℕ → Text
others_text count = if count == 0 then [] else line (codes "missing too " ++ decimal count)

-- those that are told as enough, and how many others are missing
abbrev pub enough_text : NamedLines → TextLines → List Told → Text
enough_text names lines told =
    flat_map (enough_line names lines) told
    ++ (line (held_text (enough_count told)) ++ others_text (length told - enough_count told))

-- that none of so many is told as enough
abbrev pub none_text : ℕ → Text
none_text count =
    if nat_le count most_tried then codes "none of these was found to be enough alone" else codes "none of these was tried alone: they are too many"

-- all of them, where none is told as enough
abbrev pub none_enough : NamedLines → TextLines → List Told → Text
none_enough names lines told = flat_map (told_line names lines) told ++ line (none_text (length told))

-- where some write is missing
abbrev pub some_told : NamedLines → TextLines → List Told → Text
some_told names lines told = if enough_count told == 0 then none_enough names lines told else enough_text names lines told

-- the same, or that none is missing
abbrev pub told_lines : NamedLines → TextLines → List Told → Text
told_lines names lines [] = line (codes "missing none")
told_lines names lines (first ∷ others) = some_told names lines (first ∷ others)

-- nothing of what is no image of the state
abbrev pub told_text : NamedLines → TextLines → Option (List Told) → Text
told_text names lines None = []
told_text names lines (Some told) = told_lines names lines told

-- an image: its words by name, and what is said of the writes that are missing in it
abbrev pub image_told : NamedLines → TextLines → List ℕ → Option (List Told) → Text
image_told names lines image told = image_named names image ++ told_text names lines told
