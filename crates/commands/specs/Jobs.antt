-- Which jobs read steps.
use Rattle.std.specs.Prelude.{Bool, true, false}
use Rattle.commands.specs.declared.jobs.Job.{Job}
use Rattle.commands.specs.declared.jobs.Job.TheVariants.{Run, Asm, Dis, Images, Set, Law, Trace, Next, Replay}

-- whether a job reads steps
abbrev pub reads_steps : Job → Bool
reads_steps Run = true
reads_steps Asm = false
reads_steps Dis = false
reads_steps (Images options) = true
reads_steps (Set text) = true
reads_steps Law = true
reads_steps (Trace options) = true
reads_steps (Next options) = true
reads_steps (Replay options) = true
