-- What is put into a program, in lines.
use Rattle.std.specs.Prelude.{ℕ, ◌==◌, Bool, if◌then◌else◌, is_some, Option, None as Nothing, Some, List, [], ◌∷◌, ◌++◌, codes, decimal, length}
use Rattle.std.specs.List.{flat_map}
use Rattle.std.specs.Option.{option_and_then}
use Rattle.lines_layout.specs.Layouts.{NamedLines}
use Rattle.lines_layout.specs.Names.{Text}
use Rattle.isa.specs.Objects.{Object}
use Rattle.litmus_text.specs.TextLines.{TextLines}
use Rattle.litmus_text.specs.Written.{written}
use Rattle.image_reasons.specs.declared.repair.Repair.{Repair}
use Rattle.image_reasons.specs.declared.repair.Side.{Side}
use Rattle.image_reasons.specs.declared.repair.Side.TheVariants.{Before, Behind}
use Rattle.explore.specs.declared.question.Question.{Question}
use Rattle.explore.specs.Findings.{Findings}
use Rattle.mends.specs.declared.outcome.Mended.{Mended}
use Rattle.mends.specs.declared.outcome.Mended.TheVariants.{NoneNeeded, Put, None, NotKnown}
use Rattle.mends.specs.declared.outcome.Open.{Open}
use Rattle.mends.specs.declared.outcome.Put as puts
use Rattle.candidates.specs.Sets.{cost, with_all}
use Rattle.image_reasons.specs.declared.entries.Site.{Site}
use Rattle.moves.specs.declared.one_move.Move.{Move}
use Rattle.moves.specs.declared.outcome.FirstMove.{FirstMove}
use Rattle.moves.specs.Moves.{moved}
use Rattle.moves.specs.Told.{old_repair}
use Rattle.commands.specs.ImageTexts.{line}
use Rattle.commands.specs.MissingTexts.{where_text}
use Rattle.commands.specs.TriedTexts.{instruction_text}
use Rattle.jobs.specs.CheckReports.{is_idle}
use Rattle.mend_jobs.specs.declared.asked_program.AskedProgram.{AskedProgram}
use Rattle.mend_jobs.specs.declared.mend_found.MendFound.{MendFound}
use Rattle.mend_jobs.specs.declared.mend_found.MendFound.TheVariants.{AsItIs, Moved, NoneMoved}
use Rattle.mend_jobs.specs.NeedTexts.{fault_number}

-- ---- what is put in

-- on which side of the instruction at a site it is
abbrev pub side_text : Side → Text
side_text Before = codes " before "
side_text Behind = codes " behind "

-- an instruction that is put into a program of which a store may have been moved, by its place in the program as it is
abbrev pub told : Option Move → Repair → Repair
told Nothing repair = repair
told (Some one) repair = old_repair one repair

-- on which side of the instruction at a site
abbrev pub at_side : TextLines → Side → Site → Text
at_side lines side site = side_text side ++ where_text lines site

-- the instruction, and where it is
abbrev pub placed_text : NamedLines → TextLines → Option Move → Repair → Text
placed_text names lines made repair = instruction_text names repair.instr ++ at_side lines repair.side (told made repair).site

-- the line of an instruction that is put in, and where
abbrev pub put_line : NamedLines → TextLines → Option Move → Repair → Text
put_line names lines made repair = line (codes "put " ++ placed_text names lines made repair)

-- a line for each
abbrev pub put_lines : NamedLines → TextLines → Option Move → List Repair → Text
put_lines names lines made set = flat_map (put_line names lines made) set

-- one more of a set, on the same line
abbrev pub other_text : NamedLines → TextLines → Option Move → Repair → Text
other_text names lines made repair = codes ", " ++ placed_text names lines made repair

-- a set on one line
abbrev pub set_text : NamedLines → TextLines → Option Move → List Repair → Text
set_text names lines made [] = []
set_text names lines made (first ∷ others) = placed_text names lines made first ++ flat_map (other_text names lines made) others

-- the line of a set that is not told, and why it is not
abbrev pub open_line : NamedLines → TextLines → Option Move → Open → Text
open_line names lines made one = line (codes "open " ++ set_text names lines made one.set.items ++ codes ": " ++ fault_number one.fault)

abbrev pub open_lines : NamedLines → TextLines → Option Move → List Open → Text
open_lines names lines made untold = flat_map (open_line names lines made) untold

-- ---- how the conditions stand

-- whether it holds of so many ends of the program with what is put in: of none it says nothing
abbrev pub held : ℕ → Text
held ends = if ends == 0 then codes "asked of no state" else codes "held"

abbrev pub all_line : Bool → Text
all_line asked = if asked then line (codes "all held") else []

abbrev pub ends_line : Text → Bool → ℕ → Text
ends_line name asked ends = if asked then line (name ++ codes " " ++ held ends) else []

-- the conditions that are asked, in their order
abbrev pub conditions_text : Question → Findings → Text
conditions_text question found =
    all_line (is_some question.all)
    ++ (ends_line (codes "ends") (is_some question.ends) (length found.ends) ++ ends_line (codes "recovered") (is_some question.recovered) (length found.recovered))

-- a condition that is asked of no state
abbrev pub idle_line : Text → Bool → ℕ → Text
idle_line name asked ends = if is_idle asked ends then line (name ++ codes " " ++ held ends) else []

abbrev pub idle_text : Question → Findings → Text
idle_text question found =
    idle_line (codes "ends") (is_some question.ends) (length found.ends) ++ idle_line (codes "recovered") (is_some question.recovered) (length found.recovered)

-- ---- the report

-- how many states were told apart, and what the set costs
abbrev pub counts_text : ℕ → List Repair → Text
counts_text states set = line (codes "states " ++ decimal states) ++ line (codes "cost " ++ decimal (cost set))

-- what is put in, what then holds, and which sets before it are not told; of a program of which a store may have been moved
abbrev pub put_text : AskedProgram → Option Move → puts.Put → Text
put_text asked made put =
    put_lines asked.object.layout asked.lines made put.set.items
    ++ (conditions_text asked.question put.found
    ++ (counts_text put.found.states put.set.items ++ open_lines asked.object.layout asked.lines made put.«open».items))

-- all that is said of the program as it is
abbrev pub mend_text : AskedProgram → Mended → Text
mend_text asked (NoneNeeded found) = line (codes "mend none needed") ++ idle_text asked.question found
mend_text asked (Put put) = put_text asked Nothing put
mend_text asked None = line (codes "mend none")
mend_text asked (NotKnown untold) = line (codes "mend not known") ++ open_lines asked.object.layout asked.lines Nothing untold.items

-- where the instruction is to which a store is moved
abbrev pub place_to : Move → Site
place_to one = record one.from { place = one.to }

-- which store is put where
abbrev pub move_line : TextLines → Move → Text
move_line lines one = line (codes "move " ++ where_text lines one.from ++ at_side lines one.side (place_to one))

-- how many moves were tried, of which none helps
abbrev pub vain_line : ℕ → Text
vain_line count = codes "moves " ++ (decimal count ++ line (codes ", none helps"))

-- that no set of any size holds, and none of so many moves helps
abbrev pub none_moved_text : ℕ → Text
none_moved_text count = line (codes "mend none") ++ vain_line count

-- all that is said
abbrev pub found_text : AskedProgram → MendFound → Text
found_text asked (AsItIs mended) = mend_text asked mended
found_text asked (Moved first) = move_line asked.lines first.made ++ put_text asked (Some first.made) first.put
found_text asked (NoneMoved count) = none_moved_text count

-- ---- the program with it

-- a program as a litmus text, if there is one
abbrev pub written_if : Option Object → Text
written_if Nothing = []
written_if (Some object) = written object

-- the program with what is put in, and nothing where nothing is
abbrev pub mended_text : AskedProgram → Mended → Text
mended_text asked (Put put) = written_if (with_all put.set.items asked.object)
mended_text asked _ = []

-- the program with a move and with what is put in then
abbrev pub moved_text : AskedProgram → FirstMove → Text
moved_text asked first = written_if (option_and_then (with_all first.put.set.items) (moved asked.object first.made))

-- the program that is found, and nothing where none is
abbrev pub whole_text : AskedProgram → MendFound → Text
whole_text asked (AsItIs mended) = mended_text asked mended
whole_text asked (Moved first) = moved_text asked first
whole_text asked (NoneMoved count) = []

-- the program alone, where it is asked for
abbrev pub said_text : Bool → AskedProgram → MendFound → Text
said_text as_text asked found = if as_text then whole_text asked found else found_text asked found
