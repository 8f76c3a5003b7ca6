-- What the commands without threads may make of the bytes of their sources, where JSON is asked for.
use Rattle.std.specs.Prelude.{◌≡◌, ⊤, ℕ, IsOk, List, Ok, Result}
use Rattle.commands.specs.declared.fault.Fault.{Fault}
use Rattle.commands.specs.declared.fault.Stage.TheVariants as stages
use Rattle.commands.specs.declared.jobs.Job.{Job}
use Rattle.commands.specs.declared.jobs.Job.TheVariants as jobs
use Rattle.commands.specs.Jobs as all_jobs
use Rattle.commands.specs.Programs.{questioned_work}
use Rattle.commands.specs.Serving.{Command, Report, Sources}
use Rattle.commands.specs.Works.{◌>>=◌, Makes, Work, work}
use Rattle.jobs.specs.Reports.{asm_of, dis_of, IsOfImagesOn, IsOfLooseRunOn, IsOfSetOn, IsSpelled}
use Rattle.questions.specs.Questions.{Questioned}
use Rattle.json_jobs.specs.JsonReports.{images_on, law_on, replay_on, set_on}
use Rattle.json_jobs.specs.EndReports.{run_on}
use Rattle.json_jobs.specs.NextReports.{next_on}
use Rattle.json_jobs.specs.StepReports.{trace_on}

-- The work of a job on a program that was read and on the bytes of its steps. asm and dis write an object file and a program, which
-- are no JSON.
abbrev pub json_on : Job → Questioned → List ℕ → Work Report
json_on jobs.Run program steps = run_on program.lined.object program.lined.lines steps
json_on jobs.Asm program steps = work stages.Object (Ok (asm_of program.lined.object))
json_on jobs.Dis program steps = work stages.Text (Ok (dis_of program.lined.object))
json_on (jobs.Images options) program steps = images_on options program steps
json_on (jobs.Set options) program steps = set_on options program.lined.object program.lined.lines steps
json_on jobs.Law program steps = law_on program.lined.object steps
json_on (jobs.Trace options) program steps = trace_on options program.lined.object program.lined.lines steps
json_on (jobs.Next options) program steps = next_on options program.lined.object program.lined.lines steps
json_on (jobs.Replay options) program steps = replay_on options program.lined.object steps

-- What is known of what is reported, as without JSON: an object file is read again as its program, images are all of them, a set is
-- the least, a pair is of the loose run.
abbrev pub IsExact : Job → Questioned → List ℕ → Type 0
IsExact jobs.Run program steps = ⊤
IsExact jobs.Asm program steps = IsSpelled program.lined.object
IsExact jobs.Dis program steps = ⊤
IsExact (jobs.Images options) program steps = IsOfImagesOn options program steps
IsExact (jobs.Set options) program steps = IsOfSetOn options.values.now program.lined.object steps
IsExact jobs.Law program steps = IsOfLooseRunOn program.lined.object steps
IsExact (jobs.Trace options) program steps = ⊤
IsExact (jobs.Next options) program steps = ⊤
IsExact (jobs.Replay options) program steps = ⊤

-- The program is read with the lines of its text and with what conditions may name, and then the job is done on it.
abbrev pub json_work : Job → Sources → Work Report
json_work job both = do
  program ← questioned_work both.program
  json_on job program both.steps

-- What is made is what this work makes; and it is exact of the program that the bytes say.
abbrev pub MayMakeJson : Job → Sources → Result Report Fault → Type 0
MayMakeJson job both made =
    Makes (json_work job both) made
    × (IsOk made → (program : Questioned) → (questioned_work both.program).told ≡ Ok program → IsExact job program both.steps)

-- a command on the bytes of its sources
unfoldable pub json_command_of : Job → Command
json_command_of job = record { reads_steps = all_jobs.reads_steps job; May = MayMakeJson job }
