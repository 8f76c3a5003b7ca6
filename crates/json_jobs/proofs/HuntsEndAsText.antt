-- A hunt has the same status as JSON and as text.
use Rattle.std.proofs.Common.{◌≡◌, ℕ, Option, Some, None, refl}
use Rattle.commands.specs.declared.jobs.HuntOptions.{HuntOptions}
use Rattle.thread_jobs.specs.declared.found.Found.{Found}
use Rattle.thread_jobs.specs.HuntReports.{found_report}
use Rattle.thread_jobs.specs.HuntStarts.{HuntStart}
use Rattle.json_jobs.specs.HuntData.{hunt_report}

pub hunted_same : (options : HuntOptions) (start : HuntStart) (found : Option Found) (ended : Option ℕ)
    → (hunt_report options start found ended).status ≡ (found_report options start found ended).status
hunted_same options start None ended = refl
hunted_same options start (Some found) ended = refl
