-- What flushes and fences are needed for, in lines.
use Rattle.std.specs.Prelude.{ℕ, Bool, true, false, Option, None, Some, List, [], ◌++◌, codes, decimal, length}
use Rattle.std.specs.List.{count_by, flat_map}
use Rattle.lines_layout.specs.Layouts.{NamedLines}
use Rattle.lines_layout.specs.Names.{Text}
use Rattle.isa.specs.declared.instr.Access.TheVariants.{Flush}
use Rattle.isa.specs.declared.instr.Instr.{Instr}
use Rattle.isa.specs.declared.instr.Instr.TheVariants.{Fence, Memory}
use Rattle.litmus_text.specs.Written.{fence_name, flush_name}
use Rattle.explore.specs.declared.fault.ExploreFault.{ExploreFault}
use Rattle.explore.specs.declared.fault.ExploreFault.TheVariants.{TooManyStates, NoRoom, TooMany, NoMemory}
use Rattle.fence_needs.specs.declared.need.Need.{Need}
use Rattle.fence_needs.specs.declared.need.Need.TheVariants.{Needed, LeftOut, Kept, Untold, KeptUntold}
use Rattle.fence_needs.specs.declared.need.SiteNeed.{SiteNeed}
use Rattle.fence_needs.specs.declared.need.Weaker.{Weaker}
use Rattle.fence_needs.specs.declared.need.WeakerSaid.{WeakerSaid}
use Rattle.fence_needs.specs.declared.need.WeakerSaid.TheVariants.{Does, DoesNot, NotKnown}
use Rattle.fence_needs.specs.Least.{no_more_can_go}
use Rattle.commands.specs.ImageTexts.{line}
use Rattle.commands.specs.StateTexts.{site_text}
use Rattle.commands.specs.TriedTexts.{instruction_text}
use Rattle.jobs.specs.CheckReports.{failed_text, held_text}
use Rattle.mend_jobs.specs.declared.asked_program.AskedProgram.{AskedProgram}
use Rattle.mend_jobs.specs.declared.fences_found.FencesFound.{FencesFound}
use Rattle.mend_jobs.specs.declared.fences_found.FencesFound.TheVariants.{Broken, Each, One}

-- the number of a fault by which it is not told of all runs
abbrev pub fault_number : ExploreFault → Text
fault_number TooManyStates = codes "R1"
fault_number NoRoom = codes "R2"
fault_number TooMany = codes "I1"
fault_number NoMemory = codes "R3"

-- what is said of an instruction among the others
abbrev pub need_text : Need → Text
need_text (Needed failure) = codes "needed"
need_text LeftOut = codes "not needed, left out"
need_text (Kept failure) = codes "not needed, kept"
need_text (Untold fault) = codes "not known " ++ fault_number fault
need_text (KeptUntold fault) = codes "not known " ++ fault_number fault

-- what is said of one alone
abbrev pub alone_text : Need → Text
alone_text (Needed failure) = codes "needed"
alone_text LeftOut = codes "not needed"
alone_text (Kept failure) = codes "not needed"
alone_text (Untold fault) = codes "not known " ++ fault_number fault
alone_text (KeptUntold fault) = codes "not known " ++ fault_number fault

-- the name of a flush or a fence
abbrev pub mnemonic : Instr → Text
mnemonic (Memory (Flush kind) operand) = flush_name kind
mnemonic (Fence kind) = fence_name kind
mnemonic _ = []

-- what is said of a weaker one of this name: that it does, or that it is not known
abbrev pub tried_text : Text → WeakerSaid → Text
tried_text name Does = codes ", " ++ name ++ codes " does"
tried_text name (DoesNot failure) = []
tried_text name (NotKnown fault) = codes ", " ++ name ++ codes " not known " ++ fault_number fault

-- what is said of the weaker one in place of an instruction, if one is tried
abbrev pub weaker_text : Option Weaker → Text
weaker_text None = []
weaker_text (Some weaker) = tried_text (mnemonic weaker.instr) weaker.said

-- where an instruction is, and how it is written
abbrev pub site_head : NamedLines → SiteNeed → Text
site_head names one =
    site_text one.site.processor one.site.recovering one.site.place ++ codes " " ++ instruction_text names one.instr ++ codes ": "

-- its line, with what is said of it
abbrev pub site_line : NamedLines → SiteNeed → Text → Text
site_line names one said = line (site_head names one ++ said)

abbrev pub need_line : NamedLines → SiteNeed → Text
need_line names one = site_line names one (need_text one.need ++ weaker_text one.weaker)

-- the line of one alone
abbrev pub alone_line : NamedLines → SiteNeed → Text
alone_line names one = site_line names one (alone_text one.need ++ weaker_text one.weaker)

-- whether an instruction stays
abbrev pub stays : Need → Bool
stays LeftOut = false
stays _ = true

-- how many stay
abbrev pub kept : List SiteNeed → ℕ
kept needs = count_by (λ one. stays one.need) needs

-- that these are the least number, if it is said; otherwise that no more can go than those that are left out, if it is so
abbrev pub least_text : Bool → Bool → Text
least_text true no_more = codes ", least"
least_text false true = codes ", no more can go"
least_text false false = []

-- how many stay, and of how many; and that these are the least number, or that no more can go
abbrev pub keep_line : List SiteNeed → Bool → Text
keep_line needs least =
    line (codes "keep " ++ decimal (kept needs) ++ codes " of " ++ decimal (length needs) ++ least_text least (no_more_can_go needs))

-- a line for each, and how many stay
abbrev pub needs_text : NamedLines → List SiteNeed → Bool → Text
needs_text names needs least = flat_map (need_line names) needs ++ keep_line needs least

-- all that is said: of a run that breaks a condition, as `check` says it; or what holds, and of each flush and fence; or of one alone
abbrev pub fences_text : AskedProgram → FencesFound → Text
fences_text asked (Broken failure) = failed_text failure
fences_text asked (Each found told) = held_text asked.question found ++ needs_text asked.object.layout told.needs.items told.least
fences_text asked (One found one) = alone_line asked.object.layout one
