-- What `mend` may answer.
use Rattle.std.specs.Prelude.{◌≡◌, Bool, false, Result, Ok, Err, [], ◌∷◌}
use Rattle.explore.specs.declared.fault.ExploreFault.{ExploreFault}
use Rattle.commands.specs.declared.fault.Fault.{Fault}
use Rattle.commands.specs.declared.fault.Stage.TheVariants as stages
use Rattle.commands.specs.declared.jobs.MendOptions.{MendOptions}
use Rattle.commands.specs.Serving.{Command, Report}
use Rattle.commands.specs.Works.{MakesOneOf, MakesThen}
use Rattle.jobs.specs.Starts.{fault_of}
use Rattle.mend_jobs.specs.declared.asked_program.AskedProgram.{AskedProgram}
use Rattle.mend_jobs.specs.declared.mend_found.MendFound.{MendFound}
use Rattle.mend_jobs.specs.Beginnings.{asked_program}
use Rattle.mend_jobs.specs.MendsFound.{IsMendAnswer, IsMendFound}
use Rattle.mend_jobs.specs.ReportForms.{ReportForm, mend_report}

-- What may be reported in a form, where moves are tried or are not: what comes of all sets of flushes and fences, or of the moves; or why it
-- is not told of all runs of the program as it is.
abbrev pub MayMend : ReportForm → Bool → MendOptions → AskedProgram → Result Report Fault → Type 0
MayMend form moves options asked (Ok report) =
    (found : MendFound) × IsMendFound moves options.asked.states asked found × (report ≡ mend_report form options.as_text asked found)
MayMend form moves options asked (Err fault) =
    (why : ExploreFault) × IsMendAnswer moves options.asked.states asked (Err why) × (fault ≡ fault_of why)

-- `mend`, on the bytes of its program, with its report in this form; it reads no steps. Memory may run out while runs are explored.
unfoldable pub mend_command : ReportForm → Bool → MendOptions → Command
mend_command form moves options = record {
  reads_steps = false;
  May =
      λ both made.
      MakesThen (asked_program options.asked both.program) (λ asked. MakesOneOf (MayMend form moves options asked) (stages.Exploration ∷ [])) made;
}
