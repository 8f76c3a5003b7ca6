-- What `fences` may answer.
use Rattle.std.specs.Prelude.{◌≡◌, ℕ, false, Option, option_map, Result, Ok, Err, List, [], ◌∷◌}
use Rattle.explore.specs.declared.fault.ExploreFault.{ExploreFault}
use Rattle.verdicts.specs.Verdicts.{IsUntold}
use Rattle.commands.specs.declared.asked_site.AskedSite.{AskedSite}
use Rattle.commands.specs.declared.fault.Fault.{Fault}
use Rattle.commands.specs.declared.fault.Stage.TheVariants as stages
use Rattle.commands.specs.declared.jobs.FencesOptions.{FencesOptions}
use Rattle.commands.specs.Serving.{Command, Report}
use Rattle.commands.specs.Works.{MakesOneOf, MakesThen}
use Rattle.jobs.specs.Starts.{fault_of}
use Rattle.mend_jobs.specs.declared.asked_program.AskedProgram.{AskedProgram}
use Rattle.mend_jobs.specs.declared.fences_found.FencesFound.{FencesFound}
use Rattle.mend_jobs.specs.Beginnings.{fences_start, site_asked}
use Rattle.mend_jobs.specs.FencesFound.{IsFound}
use Rattle.mend_jobs.specs.ReportForms.{ReportForm, fences_report}

-- What may be reported in a form: anything that may be found, or why it is not told of all runs of the program as it is.
abbrev pub MayReport : ReportForm → FencesOptions → AskedProgram → Result Report Fault → Type 0
MayReport form options asked (Ok report) =
    (found : FencesFound) × IsFound (option_map site_asked options.only) options.asked.states asked found × (report ≡ fences_report form asked found)
MayReport form options asked (Err fault) =
    (why : ExploreFault) × IsUntold asked.question options.asked.states asked.object why × (fault ≡ fault_of why)

-- `fences`, on the bytes of its program, with its report in this form; it reads no steps. Memory may run out while runs are explored.
unfoldable pub fences_command : ReportForm → FencesOptions → Command
fences_command form options = record {
  reads_steps = false;
  May = λ both made. MakesThen (fences_start options both.program) (λ asked. MakesOneOf (MayReport form options asked) (stages.Exploration ∷ [])) made;
}
