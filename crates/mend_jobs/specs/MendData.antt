-- What is put into a program, as JSON.
use Rattle.std.specs.Prelude.{ℕ, is_some, Bool, Option, None as Nothing, Some, List, [], ◌∷◌, ◌++◌, codes, length, map}
use Rattle.lines_layout.specs.Names.{Text}
use Rattle.explore.specs.declared.question.Question.{Question}
use Rattle.explore.specs.Findings.{Findings}
use Rattle.mends.specs.declared.outcome.Mended.{Mended}
use Rattle.mends.specs.declared.outcome.Mended.TheVariants.{NoneNeeded, Put, None, NotKnown}
use Rattle.mends.specs.declared.outcome.Open.{Open}
use Rattle.mends.specs.declared.outcome.Put as puts
use Rattle.candidates.specs.Sets.{cost}
use Rattle.image_reasons.specs.declared.repair.Repair.{Repair}
use Rattle.moves.specs.declared.one_move.Move.{Move}
use Rattle.moves.specs.declared.outcome.FirstMove.{FirstMove}
use Rattle.json_texts.specs.Objects.{Tree, header, list, null, num, obj, or_null, word}
use Rattle.json_texts.specs.ReasonData as reasons
use Rattle.json_texts.specs.StateData.{where_data}
use Rattle.json_texts.specs.SourceMaps.{SourceMap}
use Rattle.mend_jobs.specs.declared.asked_program.AskedProgram.{AskedProgram}
use Rattle.mend_jobs.specs.declared.mend_found.MendFound.{MendFound}
use Rattle.mend_jobs.specs.declared.mend_found.MendFound.TheVariants.{AsItIs, Moved, NoneMoved}
use Rattle.mend_jobs.specs.MendTexts.{held, place_to, told}
use Rattle.mend_jobs.specs.NeedData.{conditions_data, fault_data, source_of, stands}

-- an instruction that is put in, of a program of which a store may have been moved, by its place in the program as it is
abbrev pub told_put : SourceMap → Option Move → Repair → Tree
told_put source made repair = reasons.put_data source (told made repair)

-- the instructions of a set
abbrev pub set_data : SourceMap → Option Move → List Repair → Tree
set_data source made set = list (map (told_put source made) set)

-- a set that is not told, and why it is not
abbrev pub open_data : SourceMap → Option Move → Open → Tree
open_data source made one = obj ((codes "put", set_data source made one.set.items) ∷ (codes "fault", fault_data one.fault) ∷ [])

-- those that are not told, in their order
abbrev pub opens_data : SourceMap → Option Move → List Open → Tree
opens_data source made untold = list (map (open_data source made) untold)

-- the conditions of the program with what is put in
abbrev pub held_data : Question → Findings → Tree
held_data question found =
    obj ((codes "all", stands (is_some question.all) (codes "held"))
    ∷ (codes "ends", stands (is_some question.ends) (held (length found.ends)))
    ∷ (codes "recovered", stands (is_some question.recovered) (held (length found.recovered))) ∷ [])

-- which store is put where
abbrev pub move_data : SourceMap → Move → Tree
move_data source one =
    obj ((codes "store", where_data source.lines one.from) ∷ (codes "side", word (reasons.side_name one.side))
    ∷ (codes "place", where_data source.lines (place_to one)) ∷ [])

-- the same of one that may be none
abbrev pub moved_or_null : AskedProgram → Option Move → Tree
moved_or_null asked made = or_null (move_data (source_of asked)) made

-- a report: what is said, which store is moved, what is put in, how the conditions then stand, how many states were told apart, what it costs,
-- and the sets that are not told
abbrev pub told_data : Text → Tree → Tree → Tree → Tree → Tree → Tree → Tree
told_data said move set conditions states price untold =
    obj (header (codes "mend")
    ++ (codes "mend", word said) ∷ (codes "move", move) ∷ (codes "put", set) ∷ (codes "conditions", conditions)
    ∷ (codes "states", states) ∷ (codes "cost", price) ∷ (codes "open", untold) ∷ [])

-- what holds of the program as it is
abbrev pub needless_data : AskedProgram → Findings → Tree
needless_data asked found = told_data (codes "none needed") null (list []) (conditions_data asked.question found) (num found.states) (num 0) (list [])

-- what is put in, what then holds, and which sets before it are not told; of a program of which a store may have been moved
abbrev pub put_data : AskedProgram → Text → Option Move → puts.Put → Tree
put_data asked said made put =
    told_data said (moved_or_null asked made) (set_data (source_of asked) made put.set.items) (held_data asked.question put.found)
    (num put.found.states) (num (cost put.set.items)) (opens_data (source_of asked) made put.«open».items)

-- that nothing was found
abbrev pub nothing_data : AskedProgram → Text → List Open → Tree
nothing_data asked said untold = told_data said null (list []) null null null (opens_data (source_of asked) Nothing untold)

-- all that is told of the program as it is
abbrev pub mend_data : AskedProgram → Mended → Tree
mend_data asked (NoneNeeded found) = needless_data asked found
mend_data asked (Put put) = put_data asked (codes "put") Nothing put
mend_data asked None = nothing_data asked (codes "none") []
mend_data asked (NotKnown untold) = nothing_data asked (codes "not known") untold.items

-- the move, and what is put in then
abbrev pub moved_data : AskedProgram → FirstMove → Tree
moved_data asked first = put_data asked (codes "moved") (Some first.made) first.put

-- all that is told
abbrev pub found_data : AskedProgram → MendFound → Tree
found_data asked (AsItIs mended) = mend_data asked mended
found_data asked (Moved first) = moved_data asked first
found_data asked (NoneMoved count) = nothing_data asked (codes "none") []
