-- What is found of the flushes and fences of a program, and with which status a command ends that finds it.
use Rattle.std.specs.Prelude.{◌≡◌, ℕ, Option, None, Some, Result, Ok, Err}
use Rattle.machine.specs.Objects.{opening}
use Rattle.image_reasons.specs.declared.entries.Site.{Site}
use Rattle.explore.specs.declared.fault.ExploreFault.{ExploreFault}
use Rattle.explore.specs.Questions.{AreFindings}
use Rattle.verdicts.specs.Verdicts.{IsFailureOf, IsUntold}
use Rattle.fence_needs.specs.declared.need.SiteNeed.{SiteNeed}
use Rattle.fence_needs.specs.Least.{IsSaidOfLeast}
use Rattle.fence_needs.specs.Needs.{AreNeeds}
use Rattle.fence_needs.specs.Sites.{instr_at}
use Rattle.fence_needs.specs.Tried.{IsNeedAlone}
use Rattle.fence_needs.specs.Weakened.{IsWeakened, weaker_tried}
use Rattle.commands.specs.declared.status.Status.{Status}
use Rattle.commands.specs.declared.status.Status.TheVariants.{Unmet}
use Rattle.jobs.specs.CheckReports.{found_status}
use Rattle.mend_jobs.specs.declared.asked_program.AskedProgram.{AskedProgram}
use Rattle.mend_jobs.specs.declared.fences_found.FencesFound.{FencesFound}
use Rattle.mend_jobs.specs.declared.fences_found.NeedsTold.{NeedsTold}
use Rattle.mend_jobs.specs.declared.fences_found.FencesFound.TheVariants.{Broken, Each, One}

-- The need is that of the instruction at a site, alone. What is said of its weaker one is so with all else as it is.
pub record IsNeedAt (limit : ℕ) (asked : AskedProgram) (site : Site) (one : SiteNeed) : Type 0 where
  pub there : one.site ≡ site
  pub instr : one.instr ≡ instr_at asked.object site
  pub need : IsNeedAlone asked.question limit asked.object site one.need
  pub weaker : IsWeakened asked.question limit asked.object site (weaker_tried one.need one.instr) one.weaker

-- The needs are those of all flushes and fences of the program, and it is so that no larger number can go, where it is said.
pub record AreNeedsTold (limit : ℕ) (asked : AskedProgram) (told : NeedsTold) : Type 0 where
  pub each : AreNeeds asked.question limit asked.object told.needs.items
  pub least : IsSaidOfLeast asked.question limit asked.object told.needs.items told.least

-- What is found is so of all runs of the program, of which at most so many states are told apart: a run of it breaks a condition; or each
-- holds, and this is what each flush and fence is needed for, or the one at the site that is asked about.
abbrev pub IsFound : Option Site → ℕ → AskedProgram → FencesFound → Type 0
IsFound only limit asked (Broken failure) = IsFailureOf asked.question asked.object failure
IsFound None limit asked (Each found told) =
    AreFindings asked.question (opening asked.object) limit found × AreNeedsTold limit asked told
IsFound (Some site) limit asked (One found one) =
    AreFindings asked.question (opening asked.object) limit found × IsNeedAt limit asked site one
IsFound _ limit asked _ = ⊥

-- status 1 where a condition fails or is asked of no state, as of `check`
abbrev pub fences_status : AskedProgram → FencesFound → Status
fences_status asked (Broken failure) = Unmet
fences_status asked (Each found told) = found_status asked.question found
fences_status asked (One found one) = found_status asked.question found

-- What is answered is found; or it is why it is not told of the program as it is.
abbrev pub IsAnswer : Option Site → ℕ → AskedProgram → Result FencesFound ExploreFault → Type 0
IsAnswer only limit asked (Ok found) = IsFound only limit asked found
IsAnswer only limit asked (Err fault) = IsUntold asked.question limit asked.object fault
