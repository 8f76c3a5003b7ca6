-- What flushes and fences are needed for, as JSON.
use Rattle.std.specs.Prelude.{ℕ, Bool, true, false, Option, None, Some, if◌then◌else◌, is_some, List, [], ◌∷◌, ◌++◌, codes, length, map}
use Rattle.lines_layout.specs.Names.{Text}
use Rattle.machine.specs.Objects.{opening}
use Rattle.explore.specs.declared.fault.ExploreFault.{ExploreFault}
use Rattle.explore.specs.declared.question.Question.{Question}
use Rattle.explore.specs.declared.verdict.Failure.{Failure}
use Rattle.explore.specs.Findings.{Findings}
use Rattle.fence_needs.specs.declared.need.Need.{Need}
use Rattle.fence_needs.specs.declared.need.Need.TheVariants.{Needed, LeftOut, Kept, Untold, KeptUntold}
use Rattle.fence_needs.specs.declared.need.SiteNeed.{SiteNeed}
use Rattle.fence_needs.specs.declared.need.Weaker.{Weaker}
use Rattle.fence_needs.specs.declared.need.WeakerSaid.{WeakerSaid}
use Rattle.fence_needs.specs.declared.need.WeakerSaid.TheVariants.{Does, DoesNot, NotKnown}
use Rattle.fence_needs.specs.Least.{no_more_can_go}
use Rattle.jobs.specs.CheckReports.{asked_name, holding}
use Rattle.json_texts.specs.Objects.{Field, Tree, boolean, header, list, null, num, nums, obj, or_null, word}
use Rattle.json_texts.specs.ImageData.{names_data}
use Rattle.json_texts.specs.StateData.{where_data}
use Rattle.json_texts.specs.SourceMaps.{SourceMap}
use Rattle.json_texts.specs.StepData.{instruction_data, steps_data}
use Rattle.json_texts.specs.StepLines.{step_lines_data}
use Rattle.mend_jobs.specs.declared.asked_program.AskedProgram.{AskedProgram}
use Rattle.mend_jobs.specs.declared.fences_found.FencesFound.{FencesFound}
use Rattle.mend_jobs.specs.declared.fences_found.FencesFound.TheVariants.{Broken, Each, One}
use Rattle.mend_jobs.specs.NeedTexts.{fault_number, kept}

-- the names of the words of a program, and the lines of its instructions
abbrev pub source_of : AskedProgram → SourceMap
source_of asked = record { names = asked.object.layout; lines = asked.lines }

-- ---- the conditions

-- how a condition stands, where it is asked
abbrev pub stands : Bool → Text → Tree
stands asked said = if asked then word said else null

-- the conditions; of one that is asked of no state it says so
abbrev pub conditions_data : Question → Findings → Tree
conditions_data question found =
    obj ((codes "all", stands (is_some question.all) (codes "holds"))
    ∷ (codes "ends", stands (is_some question.ends) (holding (length found.ends)))
    ∷ (codes "recovered", stands (is_some question.recovered) (holding (length found.recovered))) ∷ [])

-- ---- a flush or a fence

-- what it is needed for, in a word
abbrev pub need_name : Need → Text
need_name (Needed failure) = codes "needed"
need_name LeftOut = codes "left out"
need_name (Kept failure) = codes "kept"
need_name (Untold fault) = codes "not known"
need_name (KeptUntold fault) = codes "not known"

-- the same of one alone
abbrev pub alone_name : Need → Text
alone_name (Needed failure) = codes "needed"
alone_name LeftOut = codes "not needed"
alone_name (Kept failure) = codes "not needed"
alone_name (Untold fault) = codes "not known"
alone_name (KeptUntold fault) = codes "not known"

-- the run that shows it, if one does
abbrev pub run_shown : Need → Option Failure
run_shown (Needed failure) = Some failure
run_shown (Kept failure) = Some failure
run_shown _ = None

-- why it is not told, if it is not
abbrev pub fault_shown : Need → Option ExploreFault
fault_shown (Untold fault) = Some fault
fault_shown (KeptUntold fault) = Some fault
fault_shown _ = None

-- which condition the run makes false, with which values, and by which steps
abbrev pub run_fields : Option Failure → List Field
run_fields None = (codes "condition", null) ∷ (codes "values", null) ∷ (codes "steps", null) ∷ []
run_fields (Some failure) =
    (codes "condition", word (asked_name failure.asked)) ∷ (codes "values", nums failure.values) ∷ (codes "steps", steps_data failure.run) ∷ []

-- the number of a fault
abbrev pub fault_data : ExploreFault → Tree
fault_data fault = word (fault_number fault)

-- where it is, how it is written, and what is said of it
abbrev pub site_head : SourceMap → SiteNeed → Text → List Field
site_head source one said =
    (codes "site", where_data source.lines one.site) ∷ (codes "instruction", instruction_data source.names one.instr) ∷ (codes "need", word said) ∷ []

-- what is said of a weaker one, in a word
abbrev pub said_name : WeakerSaid → Text
said_name Does = codes "does"
said_name (DoesNot failure) = codes "does not"
said_name (NotKnown fault) = codes "not known"

-- the run that shows that it does not
abbrev pub said_run : WeakerSaid → Option Failure
said_run (DoesNot failure) = Some failure
said_run _ = None

-- why it is not known, if it is not
abbrev pub said_fault : WeakerSaid → Option ExploreFault
said_fault (NotKnown fault) = Some fault
said_fault _ = None

-- how a weaker one is written, and what is said of it
abbrev pub weaker_head : SourceMap → Weaker → List Field
weaker_head source weaker = (codes "instruction", instruction_data source.names weaker.instr) ∷ (codes "said", word (said_name weaker.said)) ∷ []

-- all that is told of it
abbrev pub weaker_data : SourceMap → Weaker → Tree
weaker_data source weaker =
    obj (weaker_head source weaker ++ (run_fields (said_run weaker.said) ++ (codes "fault", or_null fault_data (said_fault weaker.said)) ∷ []))

-- why it is not told, if it is not, and the weaker one that is tried in its place, if one is
abbrev pub last_fields : SourceMap → SiteNeed → List Field
last_fields source one =
    (codes "fault", or_null fault_data (fault_shown one.need)) ∷ (codes "weaker", or_null (weaker_data source) one.weaker) ∷ []

-- all that is told of it
abbrev pub said_data : SourceMap → SiteNeed → Text → Tree
said_data source one said = obj (site_head source one said ++ (run_fields (run_shown one.need) ++ last_fields source one))

abbrev pub need_data : SourceMap → SiteNeed → Tree
need_data source one = said_data source one (need_name one.need)

-- ---- the report

-- which condition a run makes false, the names of the words, its values, its steps and the lines of their instructions
abbrev pub run_data : Text → Tree → Tree → Tree → Tree → Tree
run_data condition words values steps lines =
    obj (header (codes "fences")
    ++ (codes "holds", boolean false) ∷ (codes "condition", word condition) ∷ (codes "words", words)
    ∷ (codes "values", values) ∷ (codes "steps", steps) ∷ (codes "lines", lines) ∷ [])

-- a run of the program that breaks a condition
abbrev pub broken_data : AskedProgram → Failure → Tree
broken_data asked failure =
    run_data (asked_name failure.asked) (names_data asked.object.layout) (nums failure.values) (steps_data failure.run)
    (step_lines_data asked.lines failure.run (opening asked.object))

-- how the conditions stand, the names of the words, what is told of flushes and fences, how many of how many stay, whether no more can go, and
-- whether these are told to be the least number
abbrev pub held_data : Tree → Tree → Tree → Tree → Tree → Tree → Tree → Tree
held_data conditions words fences keep count no_more least =
    obj (header (codes "fences")
    ++ (codes "holds", boolean true) ∷ (codes "conditions", conditions) ∷ (codes "words", words)
    ∷ (codes "fences", fences) ∷ (codes "keep", keep) ∷ (codes "of", count) ∷ (codes "no_more_can_go", no_more)
    ∷ (codes "least", least) ∷ [])

-- what holds, what is told of flushes and fences, how many of how many stay, whether no more can go, and whether these are the least number
abbrev pub told_data : AskedProgram → Findings → List Tree → Tree → Tree → Tree → Tree → Tree
told_data asked found fences keep count no_more least =
    held_data (conditions_data asked.question found) (names_data asked.object.layout) (list fences) keep count no_more least

-- of each of them
abbrev pub each_data : AskedProgram → Findings → List SiteNeed → Bool → Tree
each_data asked found needs least =
    told_data asked found (map (need_data (source_of asked)) needs) (num (kept needs)) (num (length needs)) (boolean (no_more_can_go needs))
    (boolean least)

-- of one alone
abbrev pub one_data : AskedProgram → Findings → SiteNeed → Tree
one_data asked found one = told_data asked found (said_data (source_of asked) one (alone_name one.need) ∷ []) null null null null

-- all that is told
abbrev pub fences_data : AskedProgram → FencesFound → Tree
fences_data asked (Broken failure) = broken_data asked failure
fences_data asked (Each found told) = each_data asked found told.needs.items told.least
fences_data asked (One found one) = one_data asked found one
