-- The reports as JSON. Where a program alone is asked for, that of `mend` is the same.
use Rattle.json_texts.specs.Objects.{report_text}
use Rattle.mend_jobs.specs.MendData.{found_data}
use Rattle.mend_jobs.specs.NeedData.{fences_data}
use Rattle.mend_jobs.specs.ReportForms.{ReportForm}

abbrev pub json_reports : ReportForm
json_reports = record {
  of_fences = λ asked found. report_text (fences_data asked found);
  of_mend = λ as_text asked found. report_text (found_data asked found);
}
