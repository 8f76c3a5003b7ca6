-- What explains a run is part of its report.
use Rattle.std.proofs.Common.{◌≡◌, IfOk, Result, Ok, Err}
use Rattle.explore.specs.declared.verdict.Failure.{Failure}
use Rattle.explore.specs.declared.verdict.Verdict.TheVariants.{Fails}
use Rattle.commands.specs.declared.jobs.CheckOptions.{CheckOptions}
use Rattle.commands.specs.Serving.{Report}
use Rattle.jobs.specs.declared.explained.Explained.{Explained}
use Rattle.jobs.specs.declared.start.Start.{Start}
use Rattle.jobs.specs.CheckReports.{Explains}
use Rattle.json_jobs.specs.RunReports.{MayReport, failed_report}

pub explained_if : {E : Type 0} (options : CheckOptions) (start : Start) (failure : Failure) (told : Explained) (report : Result Report E) → Explains options start failure told
    → IfOk report (λ made. made ≡ failed_report options start failure told) → IfOk report (MayReport options start (Fails failure))
explained_if options start failure told (Ok made) explains is = (told, explains, is)
explained_if options start failure told (Err error) explains is = is
