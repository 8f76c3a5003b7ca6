-- What `fences` and `mend` begin with: a program, and what is asked of all its runs.
use Rattle.std.specs.Prelude.{ℕ, Bool, false, not, Option, None, Some, option_copied, List}
use Rattle.outcomes.specs.Outcomes.{refuse}
use Rattle.isa.specs.Objects.{Object}
use Rattle.image_reasons.specs.declared.entries.Site.{Site}
use Rattle.explore.specs.declared.question.Question.{Question}
use Rattle.fence_needs.specs.Sites.{instr_at, is_fence}
use Rattle.commands.specs.declared.asked_site.AskedSite.{AskedSite}
use Rattle.commands.specs.declared.fault.Refused.TheVariants.{NoFence}
use Rattle.commands.specs.declared.jobs.AskedRuns.{AskedRuns}
use Rattle.commands.specs.declared.jobs.FencesOptions.{FencesOptions}
use Rattle.commands.specs.Programs.{asked_condition, questioned_work}
use Rattle.commands.specs.Works.{◌>>=◌, Work, done, test}
use Rattle.questions.specs.Questions.{Questioned}
use Rattle.mend_jobs.specs.declared.asked_program.AskedProgram.{AskedProgram}

-- the conditions, read in their order; runs crash, unless those that do not crash alone are asked about
abbrev pub asked_question : AskedRuns → Questioned → Work Question
asked_question asked program = do
  all ← asked_condition program (option_copied asked.all)
  ends ← asked_condition program (option_copied asked.ends)
  recovered ← asked_condition program (option_copied asked.recovered)
  done (record { crashes = not asked.before_crash; all = all; ends = ends; recovered = recovered; images = false })

-- the program that bytes say, and what is asked of it
abbrev pub asked_program : AskedRuns → List ℕ → Work AskedProgram
asked_program asked program = do
  read ← questioned_work program
  question ← asked_question asked read
  done (record { object = read.lined.object; lines = read.lined.lines; question = question })

-- the site that the command line names
abbrev pub site_asked : AskedSite → Site
site_asked asked = record { processor = asked.processor; recovering = asked.recovery; place = asked.place }

-- whether a site is asked about at which there is no flush and no fence
abbrev pub lacks_fence : Object → Option AskedSite → Bool
lacks_fence object None = false
lacks_fence object (Some asked) = not (is_fence (instr_at object (site_asked asked)))

-- refused where there is none
abbrev pub fence_work : Option AskedSite → Object → Work (Unit {0})
fence_work only object = test (refuse NoFence (lacks_fence object only))

-- what `fences` begins with: a flush or a fence is at the site, if one is asked about
abbrev pub fences_start : FencesOptions → List ℕ → Work AskedProgram
fences_start options program = do
  asked ← asked_program options.asked program
  fence ← fence_work options.only asked.object
  done asked
