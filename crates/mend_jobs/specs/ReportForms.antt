-- In which form it is reported what is found.
use Rattle.std.specs.Prelude.{Bool}
use Rattle.lines_layout.specs.Names.{Text}
use Rattle.commands.specs.Serving.{Report}
use Rattle.mend_jobs.specs.declared.asked_program.AskedProgram.{AskedProgram}
use Rattle.mend_jobs.specs.declared.fences_found.FencesFound.{FencesFound}
use Rattle.mend_jobs.specs.declared.mend_found.MendFound.{MendFound}
use Rattle.mend_jobs.specs.FencesFound.{fences_status}
use Rattle.mend_jobs.specs.MendsFound.{mend_status}

-- the text of each thing that is found
pub record ReportForm : Type 0 where
  -- of the flushes and fences of a program
  pub of_fences : AskedProgram → FencesFound → Text
  -- of what is put into a program; whether the program alone is asked for
  pub of_mend : Bool → AskedProgram → MendFound → Text

-- the report of `fences`: the status is the same in each form
abbrev pub fences_report : ReportForm → AskedProgram → FencesFound → Report
fences_report form asked found = record { text = form.of_fences asked found; status = fences_status asked found }

-- the report of `mend`
abbrev pub mend_report : ReportForm → Bool → AskedProgram → MendFound → Report
mend_report form as_text asked found = record { text = form.of_mend as_text asked found; status = mend_status asked found }
