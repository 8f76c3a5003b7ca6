-- What the commands without threads may make of the bytes of their sources.
use Rattle.std.specs.Prelude.{IsOk, ℕ, List, Ok, Result}
use Rattle.commands.specs.declared.fault.Fault.{Fault}
use Rattle.commands.specs.declared.fault.Stage.TheVariants as stages
use Rattle.commands.specs.declared.jobs.Job.{Job}
use Rattle.commands.specs.declared.jobs.Job.TheVariants as jobs
use Rattle.commands.specs.Jobs as all_jobs
use Rattle.commands.specs.Serving.{Command, Report, Sources}
use Rattle.commands.specs.Works.{Makes, work}
use Rattle.questions.specs.Questions.{Questioned}
use Rattle.jobs.specs.Reports.{asm_of, asm_work, dis_of, dis_work, images_on, images_work, law_on, law_work, next_on, next_work, replay_on, replay_work, run_on, run_work, set_on, set_work, trace_on, trace_work, IsOfAllImages, IsOfImagesOn, IsOfLeastSet, IsOfLooseRun, IsOfLooseRunOn, IsOfSetOn, IsReadAgain, IsSpelled}

-- What is made is what the work makes. And of a report that is made: what asm writes is read again, what images says is of all
-- of them, or of the least set that leaves one, and what law says is of the whole loose run.
abbrev pub MayMake : Job → Sources → Result Report Fault → Type 0
MayMake jobs.Run both made = Makes (run_work both.program both.steps) made
MayMake jobs.Asm both made = Makes (asm_work both.program) made × (IsOk made → IsReadAgain both.program)
MayMake jobs.Dis both made = Makes (dis_work both.program) made
MayMake (jobs.Images options) both made =
    Makes (images_work options both.program both.steps) made × (IsOk made → IsOfAllImages options both.program both.steps)
MayMake (jobs.Set options) both made =
    Makes (set_work options both.program both.steps) made × (IsOk made → IsOfLeastSet options.values.now both.program both.steps)
MayMake jobs.Law both made = Makes (law_work both.program both.steps) made × (IsOk made → IsOfLooseRun both.program both.steps)
MayMake (jobs.Trace options) both made = Makes (trace_work both.program both.steps) made
MayMake (jobs.Next options) both made = Makes (next_work options both.program both.steps) made
MayMake (jobs.Replay options) both made = Makes (replay_work options both.program both.steps) made

-- The same where the program was read, with the lines of its text and with what conditions may name.
abbrev pub MayMakeOn : Job → Questioned → List ℕ → Result Report Fault → Type 0
MayMakeOn jobs.Run program steps made = Makes (run_on program.lined.object steps) made
MayMakeOn jobs.Asm program steps made = Makes (work stages.Object (Ok (asm_of program.lined.object))) made × (IsOk made → IsSpelled program.lined.object)
MayMakeOn jobs.Dis program steps made = Makes (work stages.Text (Ok (dis_of program.lined.object))) made
MayMakeOn (jobs.Images options) program steps made = Makes (images_on options program steps) made × (IsOk made → IsOfImagesOn options program steps)
MayMakeOn (jobs.Set options) program steps made =
    Makes (set_on options program.lined.object program.lined.lines steps) made × (IsOk made → IsOfSetOn options.values.now program.lined.object steps)
MayMakeOn jobs.Law program steps made = Makes (law_on program.lined.object steps) made × (IsOk made → IsOfLooseRunOn program.lined.object steps)
MayMakeOn (jobs.Trace options) program steps made = Makes (trace_on program.lined.object steps) made
MayMakeOn (jobs.Next options) program steps made = Makes (next_on options program.lined.object steps) made
MayMakeOn (jobs.Replay options) program steps made = Makes (replay_on options program.lined.object steps) made

-- a command on the bytes of its sources
unfoldable pub command_of : Job → Command
command_of job = record { reads_steps = all_jobs.reads_steps job; May = MayMake job }
