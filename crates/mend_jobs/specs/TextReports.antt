-- The reports in lines.
use Rattle.mend_jobs.specs.MendTexts.{said_text}
use Rattle.mend_jobs.specs.NeedTexts.{fences_text}
use Rattle.mend_jobs.specs.ReportForms.{ReportForm}

abbrev pub text_reports : ReportForm
text_reports = record { of_fences = fences_text; of_mend = said_text }
